use Rattle.tre_syntax.proofs.AtomCuts.{crossing_empty}
use Rattle.tre_syntax.proofs.cut.moments.Goals as goal

pub returns : goal.returns
returns c = λ cut a b n. crossing_empty cut.start cut.before cut.front cut.back a b n
