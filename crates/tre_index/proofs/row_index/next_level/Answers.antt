use Rattle.std.proofs.Common.{◌≡◌, ◌-◌, length, map, ◌∙◌, subst, arith}
use Rattle.tre_index.specs.Index.{IsAbove, IsOnTop}
use Rattle.tre_index.proofs.Growing.{found_as, on_top_none, on_top_last}
use Rattle.tre_index.proofs.Searching.{map-itself}
use Rattle.tre_index.proofs.row_index.next_level.Goals as goal

pub returns-in-Some : goal.returns-in-Some
returns-in-Some g c =
    let rows = map g.T.HasRow.row_of c.args.items.now in
    let above = c.args.above.now in
    let bounds = map (λ row. row) c.rows.result.now in
    let same : bounds ≡ c.in-Some.level.now = map-itself c.rows.result.now ∙ c.rows.ensures in
    found_as (IsAbove bounds) (IsOnTop rows above)
    (λ top is.
    on_top_last rows above c.in-Some.level.now top (length above - 1)
    (omega (arith, c.in-Some.ensures.item)) c.in-Some.ensures.item.1
    (subst (λ level. IsAbove level top) same is))
    c.above_blocks.result c.above_blocks.ensures

pub returns-in-None : goal.returns-in-None
returns-in-None g c =
    let rows = map g.T.HasRow.row_of c.args.items.now in
    found_as (IsAbove rows) (IsOnTop rows c.args.above.now)
    (λ top is. on_top_none rows c.args.above.now top (omega (arith, c.in-None.ensures.item)) is)
    c.above_blocks-in-None.result c.above_blocks-in-None.ensures
