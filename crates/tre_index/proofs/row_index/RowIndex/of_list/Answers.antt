use Rattle.std.proofs.Common.{map}
use Rattle.tre_index.proofs.Growing.{indexed_none}
use Rattle.tre_index.proofs.row_index.RowIndex.of_list.Goals as goal

pub invariant_of-index : goal.invariant_of-index
invariant_of-index g c = indexed_none (map g.T.HasRow.row_of _) _ c.new.ensures.items
