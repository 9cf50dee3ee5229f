use Rattle.tre_zone.proofs.ZoneListLemmas.{SetHolds-append}
use Rattle.tre_zoneset.proofs.Kept.{IsZoneSet-append}
use Rattle.tre_zoneset.proofs.zone_set.ZoneSet.join_disjoint.Goals as goal

pub invariant_of-self-2 : goal.invariant_of-self-2
invariant_of-self-2 c =
    rw (c.in_ok-extend_from_slice.ensures.items, c.self.view_is, c.zones.ensures.same)
    (IsZoneSet-append c.args.self.now c.args.other.now
    (rw c.self.view_is at c.self.invariant) c.zones.ensures.set c.requires)

pub returns-clause-held : goal.returns-clause-held
returns-clause-held c =
    rw (c.in_ok-extend_from_slice.ensures.items, c.self.view_is, c.zones.ensures.same)
    (record { exact = λ a b n some le. SetHolds-append c.args.self.now c.args.other.now a b n })
