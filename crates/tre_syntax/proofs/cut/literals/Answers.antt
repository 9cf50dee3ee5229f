use Rattle.tre_state.specs.StateTree.{HoldsOn}
use Rattle.tre_syntax.proofs.AtomCuts.{crossing_literal}
use Rattle.tre_syntax.proofs.cut.literals.Goals as goal

pub returns : goal.returns
returns c = λ state cut a b n long some.
    crossing_literal (HoldsOn state) cut.start cut.before cut.front cut.back long.front long.back
    a b n some
