use Rattle.tre_answer.proofs.CheckedOnce.{checked_text}
use Rattle.tre_answer.proofs.laws.one_checked_text.Goals as goal

pub returns : goal.returns
returns c = checked_text
