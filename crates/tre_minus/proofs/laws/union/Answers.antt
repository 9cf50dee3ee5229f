use Rattle.tre_minus.proofs.Differences.{left_and_taken}
use Rattle.tre_minus.proofs.laws.union.Goals as goal

pub returns : goal.returns
returns c = left_and_taken
