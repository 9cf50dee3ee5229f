use Rattle.tre_index.proofs.ZoneRows.{some_includes}
use Rattle.tre_index.proofs.zone_index.RowIndex+Zone.includes.Goals as goal

pub returns : goal.returns
returns c =
    rw c.is_some.ensures (some_includes _ _ c.bounds-bounds.ensures.canonical _ (rw c.row.ensures at
    c.next_at_least.ensures))
