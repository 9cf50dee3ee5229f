use Rattle.std.proofs.Common.{◌≡◌, ◌*◌, ◌≤◌, length, map, arith}
use Rattle.std.proofs.lemmas.List.{length-map}
use Rattle.tre_index.proofs.Searching.{found_next, comes_to, moves_on, goes_on, found_none}
use Rattle.tre_index.proofs.search.next_place.Goals as goal

pub returns-in_default-next_block : goal.returns-in_default-next_block
returns-in_default-next_block g c =
    let items = c.args.items.now in
    let rows = map g.T.HasRow.row_of items in
    let long : length rows ≡ length items = length-map items g.T.HasRow.row_of in
    found_none rows _ _ _ c.loop-place.invariant _ _ (omega (arith, long)) c.in_default.ensures _
    c.requires.under c.in_default-next_block.ensures

pub returns-in-Some-first_between : goal.returns-in-Some-first_between
returns-in-Some-first_between g c =
    let items = c.args.items.now in
    let rows = map g.T.HasRow.row_of items in
    let long : length rows ≡ length items = length-map items g.T.HasRow.row_of in
    let up : c.loop-place.place ≤ c.div_ceil-block.result * 8 = omega arith in
    found_next rows _ _ _ (comes_to rows _ _ _ c.loop-place.invariant _ _ (omega (arith, long))
    c.in_default.ensures _ _ _
    c.in-Some-next_block.ensures (omega (arith, long)) up (omega (arith, long)) c.requires.under)
    _ c.in-Some-first_between.ensures

pub loop-place-smaller : goal.loop-place-smaller
loop-place-smaller g c =
    let items = c.args.items.now in
    let rows = map g.T.HasRow.row_of items in
    let long : length rows ≡ length items = length-map items g.T.HasRow.row_of in
    let up : c.loop-place.place ≤ c.div_ceil-block.result * 8 = omega arith in
    let moved =
    moves_on rows c.args.key.now c.args.from c.loop-place.place c.loop-place.invariant
    c.div_ceil-block.result c.block_start.result (omega (arith, long)) c.in_default.ensures
    c.args.above.now c.in-Some-next_block.next c.block_start-in-loop-place.result
    c.in-Some-next_block.ensures (omega (arith, long)) up (omega (arith, long))
    c.block_end-place.result (omega (arith, long)) in
    omega (arith, moved)

pub loop-place-preserved : goal.loop-place-preserved
loop-place-preserved g c =
    let items = c.args.items.now in
    let rows = map g.T.HasRow.row_of items in
    let long : length rows ≡ length items = length-map items g.T.HasRow.row_of in
    let up : c.loop-place.place ≤ c.div_ceil-block.result * 8 = omega arith in
    goes_on rows _ _ _ _ (comes_to rows _ _ _ c.loop-place.invariant _ _ (omega (arith, long))
    c.in_default.ensures _ _ _
    c.in-Some-next_block.ensures (omega (arith, long)) up (omega (arith, long)) c.requires.under)
    (omega (arith, long)) c.in_default-first_between.ensures
