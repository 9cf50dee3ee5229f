use Rattle.std.proofs.Common.{arith}
use Rattle.tre_index.proofs.Searching.{HasNone-more}
use Rattle.tre_index.proofs.search.first_between.Goals as goal

pub loop-place-preserved : goal.loop-place-preserved
loop-place-preserved g c =
    HasNone-more g.T.HasRow.row_of _ _ _ _ _ _ c.loop-place.invariant (omega arith)
    c.index-items-place.is c.row.ensures
    (λ reaches. let told = c.if-reaches.ensures.1 reaches in cc)
