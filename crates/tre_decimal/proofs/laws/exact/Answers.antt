use Rattle.tre_decimal.proofs.Written.{nothing_rounded}
use Rattle.tre_decimal.proofs.laws.exact.Goals as goal

pub returns : goal.returns
returns c = nothing_rounded
