use Rattle.tre_judge.proofs.Failing.{failing}
use Rattle.tre_judge.proofs.laws.failing_is_unanswered.Goals as goal

pub returns : goal.returns
returns c = failing
