use Rattle.tre_syntax.proofs.Ends.{matches_at_end}
use Rattle.tre_syntax.proofs.laws.at_the_end.Goals as goal

pub returns : goal.returns
returns c = λ tree start before last. matches_at_end start before last tree
