use Rattle.std.proofs.Common.{◌≡◌, length, map, refl, arith}
use Rattle.std.proofs.lemmas.List.{length-map}
use Rattle.tre_index.proofs.Turns.{row_at, HasNone-through}
use Rattle.tre_index.proofs.turn.first_not_early.Goals as goal

pub loop-from-preserved-then-is_early : goal.loop-from-preserved-then-is_early
loop-from-preserved-then-is_early g c =
    let items = c.args.items.now in
    let rows = map g.T.HasRow.row_of items in
    let long : length rows ≡ length items = length-map items g.T.HasRow.row_of in
    let old = c.loop-from.invariant in
    let rising = old.rising in
    let within = old.within in
    let less = c.loop-from-test.true in
    record {
      rising = omega (arith, less);
      within = within;
      before = HasNone-through rows _ _ _ c.requires.turn
          (omega (arith, less, within, long)) (row_at g.T.HasRow.row_of items _ _ _ (omega (
            arith,
            less,
            within,
            long,
          )) c.index-items-middle.is c.row.ensures)
          (c.if-is_early.ensures.0 refl);
      here = old.here;
    }

pub offset_bounds-items-middle : goal.offset_bounds-items-middle
offset_bounds-items-middle g c =
    omega (
      arith,
      c.loop-from-test.true,
      c.loop-from.invariant.within,
      length-map c.args.items.now g.T.HasRow.row_of,
    )

pub bounds-items-middle : goal.bounds-items-middle
bounds-items-middle g c =
    omega (
      arith,
      c.loop-from-test.true,
      c.loop-from.invariant.within,
      length-map c.args.items.now g.T.HasRow.row_of,
    )

pub loop-from-preserved : goal.loop-from-preserved
loop-from-preserved g c =
    let items = c.args.items.now in
    let rows = map g.T.HasRow.row_of items in
    let long : length rows ≡ length items = length-map items g.T.HasRow.row_of in
    let old = c.loop-from.invariant in
    let less = c.loop-from-test.true in
    let middle = row_at g.T.HasRow.row_of items _ _ _ (omega (arith, less, old.within, long))
    c.index-items-middle.is c.row.ensures in
    record {
      rising = omega (arith, less);
      within = omega (arith, less, old.within);
      before = old.before;
      here = λ inside early.
          let wrong = c.is_early.ensures.1 (rw middle at early) in
          let not_early = c.if-is_early.false in
          absurd cc;
    }
