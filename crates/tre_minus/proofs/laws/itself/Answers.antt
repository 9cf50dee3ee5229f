use Rattle.tre_minus.proofs.Differences.{left_of_itself}
use Rattle.tre_minus.proofs.laws.itself.Goals as goal

pub returns : goal.returns
returns c = left_of_itself
