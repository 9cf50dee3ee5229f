use Rattle.tre_decimal.proofs.Fronts.{decimal-first}
use Rattle.tre_decimal.proofs.laws.begins_with_a_digit.Goals as goal

pub returns : goal.returns
returns c = decimal-first
