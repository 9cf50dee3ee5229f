use Rattle.std.proofs.Common.{arith}
use Rattle.tre_index.proofs.Raising.{above_more}
use Rattle.tre_index.proofs.level.Level.above.Goals as goal

pub loop-place-preserved : goal.loop-place-preserved
loop-place-preserved g c =
    above_more g.T.HasRow.row_of _ _ _ _ _ _ (omega arith) c.index-items-place.is c.row.ensures
    c.in_ok-lift.ensures.ok c.loop-place.invariant
