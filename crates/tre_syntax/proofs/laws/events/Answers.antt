use Rattle.tre_syntax.proofs.Neighbouring.{event_iff}
use Rattle.tre_syntax.proofs.laws.events.Goals as goal

pub returns : goal.returns
returns c = event_iff
