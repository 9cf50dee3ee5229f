use Rattle.tre_mark.proofs.Starts.{bare_nothing}
use Rattle.tre_mark.proofs.laws.bare.Goals as goal

pub returns : goal.returns
returns c mark bare = bare_nothing mark bare
