use Rattle.std.proofs.Common.{length, map, refl, arith}
use Rattle.tre_index.proofs.Turns.{row_at, AreInTurnTo-more, AreInTurnTo-not, AreInTurnTo-fewer, AreInTurn-take}
use Rattle.tre_index.proofs.turn.count_in_turn.Goals as goal

pub loop-place-preserved : goal.loop-place-preserved
loop-place-preserved g c =
    let items = c.args.items.now in
    AreInTurnTo-more (map g.T.HasRow.row_of items) _ _ _ (omega arith) (row_at g.T.HasRow.row_of
    items _ _ _ (omega arith) c.index-items-place.is c.row.ensures) (row_at g.T.HasRow.row_of items
    _ _
    _ (omega arith) c.index-items-place-in-loop-place.is
    c.row-in-loop-place.ensures)
    (c.if-not-is_no_earlier.ensures.0 refl) c.loop-place.invariant

pub returns-clause-turn : goal.returns-clause-turn
returns-clause-turn g c =
    let items = c.args.items.now in
    AreInTurn-take g.T.HasRow.row_of items (length items) (omega arith)
    (AreInTurnTo-fewer (map g.T.HasRow.row_of items) c.loop-place.place (length items)
    (omega (arith, c.loop-place-test.false)) c.loop-place.invariant)

pub returns-then-not-is_no_earlier-clause-turn : goal.returns-then-not-is_no_earlier-clause-turn
returns-then-not-is_no_earlier-clause-turn g c =
    AreInTurn-take g.T.HasRow.row_of _ _ (omega arith) c.loop-place.invariant

pub returns-then-not-is_no_earlier-clause-most : goal.returns-then-not-is_no_earlier-clause-most
returns-then-not-is_no_earlier-clause-most g c = λ less turn.
    let items = c.args.items.now in
    AreInTurnTo-not (map g.T.HasRow.row_of items) _ _ _ (omega arith) (row_at g.T.HasRow.row_of
    items _ _ _ (omega arith) c.index-items-place.is c.row.ensures) (row_at g.T.HasRow.row_of items
    _ _
    _ (omega arith) c.index-items-place-in-loop-place.is
    c.row-in-loop-place.ensures)
    (λ h. let e = c.if-not-is_no_earlier.ensures.1 h in (cc)) turn
