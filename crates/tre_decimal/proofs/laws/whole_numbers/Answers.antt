use Rattle.tre_decimal.proofs.Units.{units-numeral}
use Rattle.tre_decimal.proofs.laws.whole_numbers.Goals as goal

pub returns : goal.returns
returns c = units-numeral
