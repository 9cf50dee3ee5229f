use Rattle.std.proofs.Common.{sym, subst, rules}
use Rattle.tre_zone.specs.Zone.{LeavesRoom}
use Rattle.tre_zone.proofs.Closing.{closed-canonical}
use Rattle.tre_zone.proofs.Given.{closed-keys, closed-exact, closed-never}
use Rattle.tre_zone.proofs.zone.tightened.Goals as goal

pub leaves_room-requires : goal.leaves_room-requires
leaves_room-requires c = rw c.closed-closed.ensures (closed-keys c.args.bounds.now c.requires.keys)

pub invariant_of-result : goal.invariant_of-result
invariant_of-result c =
    search (rules, closed-canonical, c.closed-closed.ensures, c.if-leaves_room.ensures.0)

pub returns-then-leaves_room : goal.returns-then-leaves_room
returns-then-leaves_room c = rw c.closed-closed.ensures (closed-exact c.args.bounds.now)

pub returns-else-leaves_room : goal.returns-else-leaves_room
returns-else-leaves_room c =
    closed-never c.args.bounds.now
    (λ h. let e = c.if-leaves_room.ensures.1 (subst LeavesRoom (sym c.closed-closed.ensures) h) in
    (cc))
