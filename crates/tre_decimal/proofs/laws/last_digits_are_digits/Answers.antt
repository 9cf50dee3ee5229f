use Rattle.tre_decimal.proofs.Written.{digits-last, length-last}
use Rattle.tre_decimal.proofs.laws.last_digits_are_digits.Goals as goal

pub returns : goal.returns
returns c = record { digits = digits-last; count = length-last }
