use Rattle.std.proofs.Common.{◌∙◌, ◌∷◌, ◌++◌, [], sym, ap, take, slice_index_or}
use Rattle.std.proofs.lemmas.List.{take_all, take_more}
use Rattle.tre_packed.proofs.offsets.widened.Goals as goal

pub loop-offset-preserved : goal.loop-offset-preserved
loop-offset-preserved c =
    let index = c.loop-offset.offset-index in
    c.in_ok-push.ensures.items ∙ ap (λ offset. c.loop-offset.far.items ++ offset ∷ []) c.from.ensures
    ∙ ap (λ front. front ++ slice_index_or c.args.near.now index 0 ∷ []) c.loop-offset.invariant
    ∙ sym (take_more c.args.near.now index 0 c.loop-offset-test.true)

pub returns : goal.returns
returns c =
    c.loop-offset.invariant
    ∙ take_all c.loop-offset.offset-index c.args.near.now c.loop-offset-test.false
