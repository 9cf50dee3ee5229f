use Rattle.std.proofs.Common.{refl}
use Rattle.tre_pairs.specs.Pairs.{Pairs, Either, Both}
use Rattle.tre_zone.specs.Zone.{ZoneHolds}
use Rattle.tre_zone.specs.ZoneList.{SetHolds}
use Rattle.tre_zone.proofs.ZoneListLemmas.{SetHolds-empty}
use Rattle.tre_zoneset.proofs.Unions.{HoldExactly-each_beside, HoldExactly-none_beside, HoldExactly-all, Both-additive_left}
use Rattle.tre_node.proofs.combining.gather_meets.Goals as goal

pub loop-zone-init : goal.loop-zone-init
loop-zone-init c =
    HoldExactly-none_beside c.args.found.now.items _ (λ a b n h. SetHolds-empty _ _ _ h.left)

pub loop-zone-preserved : goal.loop-zone-preserved
loop-zone-preserved c =
    HoldExactly-each_beside
    (λ (R : Pairs). Both R (SetHolds c.args.others.now))
    (Both-additive_left (SetHolds c.args.others.now))
    c.args.found.now.items c.loop-zone.found.items c.gather_meet.new.found.items
    c.args.zones.now c.loop-zone.zone-index c.zone-item.result
    (Both (ZoneHolds c.zone-item.result) (SetHolds c.args.others.now))
    c.loop-zone-test.true c.zone-item.is c.loop-zone.invariant c.in_ok-gather_meet.ensures
    (λ a b n some le. ((λ h. h), (λ h. h)))

pub returns : goal.returns
returns c =
    HoldExactly-all
    (λ (R : Pairs). Either (SetHolds c.args.found.now.items)
    (Both R (SetHolds c.args.others.now)))
    c.loop-zone.found.items c.args.zones.now c.args.zones.now c.loop-zone.zone-index
    c.loop-zone-test.false refl c.loop-zone.invariant
