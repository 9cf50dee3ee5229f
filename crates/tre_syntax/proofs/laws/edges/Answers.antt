use Rattle.tre_state.specs.StateTree.{HoldsOn}
use Rattle.tre_syntax.proofs.Neighbouring.{edge_iff, edge_inside}
use Rattle.tre_syntax.proofs.laws.edges.Goals as goal

pub returns : goal.returns
returns c = record {
  rise = λ s trace a b n. edge_iff (λ w. ¬ HoldsOn s w) (HoldsOn s) trace a b n;
  fall = λ s trace a b n. edge_iff (HoldsOn s) (λ w. ¬ HoldsOn s w) trace a b n;
  rise_inside = λ s trace a b n some is_trace h. edge_inside (λ w. ¬ HoldsOn s w)
      (HoldsOn s) trace a b n some is_trace.long h;
  fall_inside = λ s trace a b n some is_trace h. edge_inside (HoldsOn s)
      (λ w. ¬ HoldsOn s w) trace a b n some is_trace.long h;
}
