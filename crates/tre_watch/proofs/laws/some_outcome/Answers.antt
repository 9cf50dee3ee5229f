use Rattle.tre_watch.proofs.Existence.{outcome_is}
use Rattle.tre_watch.proofs.laws.some_outcome.Goals as goal

pub returns : goal.returns
returns c = outcome_is c.some_reading.ensures
