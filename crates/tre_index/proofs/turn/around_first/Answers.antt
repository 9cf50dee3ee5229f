use Rattle.std.proofs.Common.{◌≡◌, length, map, refl, arith}
use Rattle.std.proofs.lemmas.List.{length-map}
use Rattle.tre_index.proofs.Turns.{row_at, HasNone-through}
use Rattle.tre_index.proofs.turn.around_first.Goals as goal

pub loop-step-preserved : goal.loop-step-preserved
loop-step-preserved g c =
    let items = c.args.items.now in
    let rows = map g.T.HasRow.row_of items in
    let long : length rows ≡ length items = length-map items g.T.HasRow.row_of in
    let within = c.loop-step.invariant.0 in
    let some = c.loop-step.invariant.1 in
    let fits = c.loop-step-test.true in
    let doubled = c.saturating_mul-step.ensures in (
      omega (arith, within, some, fits),
      omega (arith, some, doubled),
      HasNone-through rows _ _ _ c.requires.turn
          (omega (arith, within, some, fits, long)) (row_at g.T.HasRow.row_of items _ _ _ (omega
          (arith, within, some, fits)) c.index-items-to.is c.row.ensures)
          (c.if-not-is_early.ensures.0 refl),
    )
