use Rattle.tre_state.specs.StateTree.{HoldsOn}
use Rattle.tre_syntax.proofs.Neighbouring.{literal_iff}
use Rattle.tre_syntax.proofs.laws.literals.Goals as goal

pub returns : goal.returns
returns c = λ s trace a b n. literal_iff (HoldsOn s) a b n trace.segments
