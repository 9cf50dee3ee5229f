use Rattle.std.proofs.Common.{◌≡◌}
use Rattle.tre_index.proofs.row_index.RowIndex.of_list.Given as goal

abbrev pub invariant-loop : goal.invariant-loop
invariant-loop g l = l.index ≡ l.fn.items.items
