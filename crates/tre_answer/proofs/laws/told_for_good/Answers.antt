use Rattle.tre_answer.proofs.Said.{for_good}
use Rattle.tre_answer.proofs.laws.told_for_good.Goals as goal

pub returns : goal.returns
returns c = for_good
