use Rattle.tre_parse.proofs.Outcomes.{outcome_once}
use Rattle.tre_parse.proofs.laws.one_outcome.Goals as goal

pub returns : goal.returns
returns c = outcome_once
