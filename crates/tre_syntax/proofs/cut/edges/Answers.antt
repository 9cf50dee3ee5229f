use Rattle.tre_state.specs.StateTree.{HoldsOn}
use Rattle.tre_syntax.proofs.AtomCuts.{crossing_edge}
use Rattle.tre_syntax.proofs.cut.edges.Goals as goal

pub returns : goal.returns
returns c = record {
  rise = λ state cut a b n long some.
      crossing_edge (λ w. ¬ HoldsOn state w) (HoldsOn state) cut.start cut.before cut.front
      cut.back long.front a b n some;
  fall = λ state cut a b n long some.
      crossing_edge (HoldsOn state) (λ w. ¬ HoldsOn state w) cut.start cut.before cut.front
      cut.back long.front a b n some;
}
