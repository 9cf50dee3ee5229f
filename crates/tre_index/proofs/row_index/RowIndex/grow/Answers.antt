use Rattle.std.proofs.Common.{map}
use Rattle.tre_index.proofs.Growing.{indexed_more, found_at}
use Rattle.tre_index.proofs.row_index.RowIndex.grow.Goals as goal

pub invariant_of-self-in-Some : goal.invariant_of-self-in-Some
invariant_of-self-in-Some g c =
    indexed_more (map g.T.HasRow.row_of c.self.inside.items.items) c.self.inside.above.items _ _
    c.self.invariant (found_at g.T.HasRow.row_of _ c.self.inside.items.items _
    c.self.inside.above.items c.in_ok-top.field-0 _ c.in-Some.is c.deref.ensures.value
    c.deref-2.ensures.value c.in_ok-top.ensures) c.in_ok-push-in-Some.ensures.items
