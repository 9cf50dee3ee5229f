use Rattle.std.proofs.Common.{rules}
use Rattle.std.proofs.lemmas.List.{length-map}
use Rattle.tre_pairs.specs.Pairs.{Both}
use Rattle.tre_zone.specs.Zone.{ZoneHolds, row_of}
use Rattle.tre_zone.proofs.ZoneListLemmas.{SetHolds-empty}
use Rattle.tre_zoneset.specs.ZoneSet.{FoundHolds}
use Rattle.tre_zoneset.proofs.Searching.{HoldsFirst-none, HoldsFirst-next, HoldsFirst-rest, HoldsFirst-end, IsKeyOf-canonical}
use Rattle.tre_zoneset.proofs.Unions.{Both-additive_right, FoundHolds-exact}
use Rattle.tre_zoneset.proofs.zone_set.gather_meets.Goals as goal

pub loop-place-init : goal.loop-place-init
loop-place-init c =
    HoldsFirst-none (Both (ZoneHolds c.args.zone.now)) c.args.found.now.items c.args.others.now
    (λ a b n h. SetHolds-empty a b n h.right)

pub loop-place-preserved : goal.loop-place-preserved
loop-place-preserved c =
    HoldsFirst-next (Both (ZoneHolds c.args.zone.now))
    (Both-additive_right (ZoneHolds c.args.zone.now)) c.args.found.now.items c.args.others.now
    c.loop-place.found.items c.key_meeting-key.result
    (IsKeyOf-canonical (Both (ZoneHolds c.args.zone.now)) c.args.others.now c.key_meeting-key.result
    c.requires c.key_meeting-key.ensures.others) c.loop-place.place c.in-Some.next
    c.index-items-next.result c.gather.new.found.items (FoundHolds c.meet.result)
    c.in-Some.ensures
    (rw c.items-items.ensures at c.index-items-next.is) c.loop-place.invariant
    c.in_ok-gather-in-Some.ensures
    (FoundHolds-exact c.meet.result
    (Both (ZoneHolds c.args.zone.now) (ZoneHolds c.index-items-next.result)) c.meet.ensures)

pub returns-in-None : goal.returns-in-None
returns-in-None c =
    HoldsFirst-rest (Both (ZoneHolds c.args.zone.now))
    (Both-additive_right (ZoneHolds c.args.zone.now)) c.args.found.now.items c.args.others.now
    c.loop-place.found.items c.key_meeting-key.result
    (IsKeyOf-canonical (Both (ZoneHolds c.args.zone.now)) c.args.others.now c.key_meeting-key.result
    c.requires c.key_meeting-key.ensures.others) c.args.zone.now c.loop-place.place
    c.in-None.ensures c.loop-place.invariant

pub returns : goal.returns
returns c =
    HoldsFirst-end (Both (ZoneHolds c.args.zone.now))
    (Both-additive_right (ZoneHolds c.args.zone.now)) c.args.found.now.items c.args.others.now
    c.loop-place.found.items c.key_meeting-key.result
    (IsKeyOf-canonical (Both (ZoneHolds c.args.zone.now)) c.args.others.now c.key_meeting-key.result
    c.requires c.key_meeting-key.ensures.others) c.loop-place.place
    (rw c.items-items.ensures at c.loop-place-test.false) c.loop-place.invariant

pub bounds-items-next : goal.bounds-items-next
bounds-items-next c = search (rules, length-map, row_of, c.args.others.now)

pub loop-place-smaller : goal.loop-place-smaller
loop-place-smaller c = search (rules, length-map, row_of, c.args.others.now)
