use Rattle.std.proofs.Common.{◌∙◌, refl}
use Rattle.std.proofs.lemmas.Result.{IfOk-at_ok}
use Rattle.tre_node.proofs.Copies.{copied_by, copy_named}
use Rattle.tre_node.proofs.node.Node.+try_clone.Goals as goal

pub returns-in-Ok-boxed_results : goal.returns-in-Ok-boxed_results
returns-in-Ok-boxed_results t c = copied_by c.in-Seq.is (
  c.like-in-Seq.ensures,
  copy_named c.deref-in-Seq.ensures
      (IfOk-at_ok _ c.in-Ok-boxed_results.ensures.one c.try_clone-left.ensures),
  copy_named c.deref-in-Seq-2.ensures
      (IfOk-at_ok _ c.in-Ok-boxed_results.ensures.other c.try_clone-in-Seq.ensures),
)

pub returns-in-Ok-boxed_results-2 : goal.returns-in-Ok-boxed_results-2
returns-in-Ok-boxed_results-2 t c = copied_by c.in-Alt.is (
  c.like-in-Alt.ensures,
  copy_named c.deref-in-Alt.ensures
      (IfOk-at_ok _ c.in-Ok-boxed_results-2.ensures.one c.try_clone-left-in-Alt.ensures),
  copy_named c.deref-in-Alt-2.ensures
      (IfOk-at_ok _ c.in-Ok-boxed_results-2.ensures.other c.try_clone-in-Alt.ensures),
)

pub returns-in-Ok-boxed_results-3 : goal.returns-in-Ok-boxed_results-3
returns-in-Ok-boxed_results-3 t c = copied_by c.in-Meet.is (
  c.like-in-Meet.ensures,
  refl,
  c.in_ok-outer-in-Meet.ensures ∙ c.deref-in-Meet.ensures.value,
  copy_named c.deref-in-Meet-2.ensures
      (IfOk-at_ok _ c.in-Ok-boxed_results-3.ensures.one c.try_clone-left-in-Meet.ensures),
  copy_named c.deref-in-Meet-3.ensures
      (IfOk-at_ok _ c.in-Ok-boxed_results-3.ensures.other c.try_clone-in-Meet.ensures),
)

pub returns-in-Ok-boxed_result : goal.returns-in-Ok-boxed_result
returns-in-Ok-boxed_result t c = copied_by c.in-Star.is (
  c.like-in-Star.ensures,
  copy_named c.deref-in-Star.ensures
      (IfOk-at_ok _ c.in-Ok-boxed_result.ensures c.try_clone-in-Star.ensures),
)

pub returns-in-Ok-boxed_result-2 : goal.returns-in-Ok-boxed_result-2
returns-in-Ok-boxed_result-2 t c = copied_by c.in-Within.is (
  c.like-in-Within.ensures,
  refl,
  refl,
  c.in_ok-outer-in-Within.ensures ∙ c.deref-in-Within.ensures.value,
  copy_named c.deref-in-Within-2.ensures
      (IfOk-at_ok _ c.in-Ok-boxed_result-2.ensures c.try_clone-in-Within.ensures),
)
