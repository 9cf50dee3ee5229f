use Rattle.std.proofs.Common.{◌≡◌, length, map, refl, arith}
use Rattle.std.proofs.lemmas.List.{length-map}
use Rattle.tre_index.proofs.Turns.{row_at, HasNone-early}
use Rattle.tre_index.proofs.turn.back_to_early.Goals as goal

pub returns-then-is_early-clause-none : goal.returns-then-is_early-clause-none
returns-then-is_early-clause-none g c =
    let items = c.args.items.now in
    let rows = map g.T.HasRow.row_of items in
    let long : length rows ≡ length items = length-map items g.T.HasRow.row_of in
    let inside = c.loop-place.invariant.0 in
    let some = c.loop-place-test.true in
    HasNone-early rows _ _ _ c.requires (omega (arith, inside, long)) (omega (arith, some)) (row_at
    g.T.HasRow.row_of items _ _ _ (omega (arith, inside, some)) c.index-items-place.is
    c.row.ensures) (c.if-is_early.ensures.0 refl)
