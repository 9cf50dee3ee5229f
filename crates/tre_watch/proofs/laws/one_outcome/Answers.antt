use Rattle.tre_watch.proofs.Outcomes as proved
use Rattle.tre_watch.proofs.laws.one_outcome.Goals as goal

pub returns : goal.returns
returns c = proved.one_outcome
