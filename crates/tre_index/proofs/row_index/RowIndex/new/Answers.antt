use Rattle.std.proofs.Common.{map}
use Rattle.tre_index.proofs.Growing.{indexed_none}
use Rattle.tre_index.proofs.row_index.RowIndex.new.Goals as goal

pub invariant_of-result : goal.invariant_of-result
invariant_of-result g c = indexed_none (map g.T.HasRow.row_of _) _ c.new-2.ensures.items
