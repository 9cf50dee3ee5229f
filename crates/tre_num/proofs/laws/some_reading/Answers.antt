use Rattle.tre_num.proofs.SomeReading.{some_reading}
use Rattle.tre_num.proofs.laws.some_reading.Goals as goal

pub returns : goal.returns
returns c = some_reading
