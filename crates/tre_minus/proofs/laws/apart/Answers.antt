use Rattle.tre_minus.proofs.Differences.{left_apart}
use Rattle.tre_minus.proofs.laws.apart.Goals as goal

pub returns : goal.returns
returns c = left_apart
