use Rattle.tre_parse.proofs.Spelling.{outcome_spells}
use Rattle.tre_parse.proofs.laws.outcome_is_spelt.Goals as goal

pub returns : goal.returns
returns c = outcome_spells
