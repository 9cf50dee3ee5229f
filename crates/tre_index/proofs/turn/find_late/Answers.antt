use Rattle.std.proofs.Common.{refl, arith, map}
use Rattle.tre_index.proofs.Turns.{row_at, HasNone-late, AreNotLate-more}
use Rattle.tre_index.proofs.turn.find_late.Goals as goal

pub loop-place-preserved : goal.loop-place-preserved
loop-place-preserved g c = (
  omega (arith, c.loop-place.invariant.0),
  AreNotLate-more (map g.T.HasRow.row_of c.args.items.now) c.args.key.now c.row.result c.args.from
      c.loop-place.place
      (row_at g.T.HasRow.row_of c.args.items.now c.loop-place.place c.index-items-place.result
      c.row.result (omega arith) c.index-items-place.is c.row.ensures)
      (λ late. let e = c.if-is_late.ensures.1 late in (cc)) c.loop-place.invariant.1,
)

pub returns-then-is_late-clause-none : goal.returns-then-is_late-clause-none
returns-then-is_late-clause-none g c = λ fewer.
    HasNone-late _ c.args.key.now c.row.result c.loop-place.place _ c.requires.turn
    (row_at g.T.HasRow.row_of c.args.items.now c.loop-place.place c.index-items-place.result
    c.row.result (omega arith) c.index-items-place.is c.row.ensures)
    (c.if-is_late.ensures.0 refl)
