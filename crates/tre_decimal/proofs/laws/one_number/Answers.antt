use Rattle.tre_decimal.proofs.Fronts.{number-end}
use Rattle.tre_decimal.proofs.laws.one_number.Goals as goal

pub returns : goal.returns
returns c = number-end
