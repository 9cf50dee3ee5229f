use Rattle.tre_zoneset.proofs.Members.{IsZoneSet-push}
use Rattle.tre_zoneset.proofs.Unions.{HoldExactly-push}
use Rattle.tre_zoneset.proofs.zone_set.ZoneSet.push_apart.Goals as goal

pub invariant_of-self-2 : goal.invariant_of-self-2
invariant_of-self-2 c =
    rw (c.in_ok-push.ensures.items, c.self.view_is)
    (IsZoneSet-push c.args.self.now c.args.zone
    (rw c.self.view_is at c.self.invariant) c.requires c.bounds-bounds.ensures.canonical)

pub returns-clause-held : goal.returns-clause-held
returns-clause-held c = rw (c.in_ok-push.ensures.items, c.self.view_is)
    (HoldExactly-push c.args.self.now c.args.zone)
