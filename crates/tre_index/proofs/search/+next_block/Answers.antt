use Rattle.std.proofs.Common.{◌*◌, ◌≤◌, map, Some, None, ◌∙◌, arith}
use Rattle.std.proofs.lemmas.List.{length-map}
use Rattle.tre_index.proofs.Searching.{passed_all, found_next, comes_to, moves_on, goes_on, found_none, finds_at, first_under, others_index, finds_any, map-itself}
use Rattle.tre_index.proofs.search.+next_block.Goals as goal

pub returns-in_default : goal.returns-in_default
returns-in_default t c = finds_any _ _ _ c.in_default.ensures.cases

pub returns-in-Some-first_between : goal.returns-in-Some-first_between
returns-in-Some-first_between t c =
    finds_at _ _ _ c.in-Some.ensures.cases.0 _
    (map-itself c.rows-bounds.result.now ∙ c.rows-bounds.ensures) _ _ (Some _)
    (found_next _ _ _ _ c.loop-place.invariant _ c.in-Some-first_between.ensures)

pub next_block-requires : goal.next_block-requires
next_block-requires t c = (
  omega (arith, c.in-Some.ensures.cases.1),
  others_index _ _ _ c.in-Some.ensures.cases.0
      c.requires,
)

pub returns-in_default-next_block : goal.returns-in_default-next_block
returns-in_default-next_block t c =
    let long = length-map c.rows-bounds.result.now (λ row. row) in
    let same = map-itself c.rows-bounds.result.now ∙ c.rows-bounds.ensures in
    let are = c.in-Some.ensures.cases.0 in
    finds_at _ _ _ are _ same _ _ None (found_none _ _ _ _ c.loop-place.invariant _ _
    (omega (arith, long)) c.in_default-first_between.ensures _
    (first_under _ _ _ are _ same c.requires) c.in_default-next_block.ensures)

pub returns-in-Some-first_between-2 : goal.returns-in-Some-first_between-2
returns-in-Some-first_between-2 t c =
    let long = length-map c.rows-bounds.result.now (λ row. row) in
    let same = map-itself c.rows-bounds.result.now ∙ c.rows-bounds.ensures in
    let are = c.in-Some.ensures.cases.0 in
    let up : c.loop-place.place ≤ c.div_ceil-block.result * 8 = omega arith in
    finds_at _ _ _ are _ same _ _ (Some _) (found_next _ _ _ _ (comes_to _ _ _ _
    c.loop-place.invariant _ _ (omega (arith, long)) c.in_default-first_between.ensures _ _ _
    c.in-Some-next_block.ensures (omega (arith, long)) up (omega (arith, long))
    (first_under _ _ _ are _ same c.requires)) _ c.in-Some-first_between-2.ensures)

pub loop-place-smaller : goal.loop-place-smaller
loop-place-smaller t c =
    let bounds = c.rows-bounds.result.now in
    let long = length-map bounds (λ row. row) in
    let up : c.loop-place.place ≤ c.div_ceil-block.result * 8 = omega arith in
    let moved =
    moves_on (map (λ row. row) bounds) c.args.key.now c.args.from c.loop-place.place
    c.loop-place.invariant c.div_ceil-block.result c.block_start.result (omega (arith, long))
    c.in_default-first_between.ensures c.in-Some.above.now c.in-Some-next_block.next
    c.block_start-in-loop-place.result c.in-Some-next_block.ensures (omega (arith, long)) up
    (omega (arith, long)) c.block_end-place.result (omega (arith, long)) in
    omega (arith, moved)

pub loop-place-preserved : goal.loop-place-preserved
loop-place-preserved t c =
    let long = length-map c.rows-bounds.result.now (λ row. row) in
    let same = map-itself c.rows-bounds.result.now ∙ c.rows-bounds.ensures in
    let up : c.loop-place.place ≤ c.div_ceil-block.result * 8 = omega arith in
    goes_on _ _ _ _ _ (comes_to _ _ _ _ c.loop-place.invariant _ _ (omega (arith, long))
    c.in_default-first_between.ensures _ _ _ c.in-Some-next_block.ensures (omega (arith, long)) up
    (omega (arith, long)) (first_under _ _ _ c.in-Some.ensures.cases.0 _ same c.requires))
    (omega (arith, long)) c.in_default-first_between-2.ensures

pub returns : goal.returns
returns t c =
    let long = length-map c.rows-bounds.result.now (λ row. row) in
    let same = map-itself c.rows-bounds.result.now ∙ c.rows-bounds.ensures in
    finds_at _ _ _ c.in-Some.ensures.cases.0 _ same _ _ None
    (passed_all _ _ _ _ c.loop-place.invariant (omega (arith, long)))
