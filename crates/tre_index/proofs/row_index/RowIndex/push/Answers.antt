use Rattle.std.proofs.Common.{map, refl, arith}
use Rattle.tre_index.proofs.Growing.{indexed_risen, indexed_items, room_at_end}
use Rattle.tre_index.proofs.row_index.RowIndex.push.Goals as goal

pub raise-requires-clause-room : goal.raise-requires-clause-room
raise-requires-clause-room g c =
    room_at_end g.T.HasRow.row_of c.self.inside.items.items c.self.inside.above.items _ _
    c.self.invariant c.deref_mut.ensures.value (omega (
      arith,
      c.len.ensures,
      c.self.inside.items.ok,
    ))

pub invariant_of-self : goal.invariant_of-self
invariant_of-self g c =
    indexed_risen (map g.T.HasRow.row_of c.self.inside.items.items) c.self.inside.above.items _ _
    c.self.inside.above.len c.deref_mut.ensures.value c.self.invariant c.raise.auto.levels
    c.deref_mut.ensures.len c.raise.ensures.index c.raise.ensures.risen

pub invariant_of-self-in_err-push : goal.invariant_of-self-in_err-push
invariant_of-self-in_err-push g c =
    rw c.in_err-push.ensures.items (indexed_risen (map g.T.HasRow.row_of c.self.inside.items.items)
    c.self.inside.above.items _ _ c.self.inside.above.len c.deref_mut.ensures.value c.self.invariant
    c.raise.auto.levels c.deref_mut.ensures.len c.raise.ensures.index c.raise.ensures.risen)

pub invariant_of-self-2 : goal.invariant_of-self-2
invariant_of-self-2 g c =
    indexed_items (map g.T.HasRow.row_of c.self.inside.items.items) c.self.inside.above.items _ _
    c.self.inside.above.len c.deref_mut.ensures.value c.self.invariant c.raise.auto.levels
    c.deref_mut.ensures.len c.raise.ensures.index c.raise.ensures.risen g.T.HasRow.row_of
    c.self.inside.items.items _ _ _ _ refl c.in_ok-push.ensures.items c.row.ensures (omega (
      arith,
      c.len.ensures,
      c.self.inside.items.ok,
    )) c.in_ok-raise.ensures.ok
