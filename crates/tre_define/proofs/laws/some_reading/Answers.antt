use Rattle.tre_define.proofs.SomeSignals.{some_reading}
use Rattle.tre_define.proofs.laws.some_reading.Goals as goal

pub returns : goal.returns
returns c = some_reading
