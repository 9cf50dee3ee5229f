use Rattle.tre_answer.proofs.Differences.{parts_of_first}
use Rattle.tre_answer.proofs.laws.parts_of_a_difference.Goals as goal

pub returns : goal.returns
returns c = parts_of_first
