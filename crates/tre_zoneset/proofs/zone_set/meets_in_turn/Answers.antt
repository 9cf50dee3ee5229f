use Rattle.std.proofs.Common.{refl}
use Rattle.tre_pairs.specs.Pairs.{Both}
use Rattle.tre_zone.specs.Zone.{ZoneHolds}
use Rattle.tre_zone.specs.ZoneList.{SetHolds}
use Rattle.tre_zone.proofs.ZoneListLemmas.{SetHolds-empty}
use Rattle.tre_zoneset.proofs.Unions.{HoldExactly-each, HoldExactly-none, HoldExactly-all, Both-additive_left}
use Rattle.tre_zoneset.proofs.zone_set.meets_in_turn.Goals as goal

pub loop-zone-init : goal.loop-zone-init
loop-zone-init c = rw c.new-found.ensures.items (HoldExactly-none _
    (λ a b n h. SetHolds-empty a b n h.left))

pub loop-zone-preserved : goal.loop-zone-preserved
loop-zone-preserved c =
    HoldExactly-each (λ R. Both R (SetHolds c.args.others.now))
    (Both-additive_left (SetHolds c.args.others.now))
    c.loop-zone.found.items c.gather_near_meets.new.found.items c.args.zones.now
    c.loop-zone.zone-index
    c.zone-item.result (Both (ZoneHolds c.zone-item.result) (SetHolds c.args.others.now))
    c.loop-zone-test.true c.zone-item.is c.loop-zone.invariant
    c.in_ok-near.ensures
    (λ a b n some le. ((λ h. h), (λ h. h)))

pub returns : goal.returns
returns c =
    HoldExactly-all (λ R. Both R (SetHolds c.args.others.now)) c.loop-zone.found.items
    c.args.zones.now c.args.zones.now c.loop-zone.zone-index
    c.loop-zone-test.false refl c.loop-zone.invariant
