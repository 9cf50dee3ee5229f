use Rattle.std.proofs.Common.{refl}
use Rattle.tre_pairs.specs.Pairs.{Pairs}
use Rattle.tre_zone.specs.Zone.{ZoneHolds}
use Rattle.tre_zone.proofs.ZoneListLemmas.{SetHolds-empty}
use Rattle.tre_zoneset.proofs.Unions.{HoldExactly-each, HoldExactly-none, HoldExactly-all, itself-additive}
use Rattle.tre_zoneset.proofs.touching.all_united.Goals as goal

pub loop-zone-init : goal.loop-zone-init
loop-zone-init c = rw c.new-united.ensures.items
    (HoldExactly-none _ (λ a b n h. SetHolds-empty a b n h))

pub loop-zone-preserved : goal.loop-zone-preserved
loop-zone-preserved c =
    HoldExactly-each (λ (R : Pairs). R) itself-additive
    c.loop-zone.united.items c.push_united.new.united.items c.args.zones.now
    c.loop-zone.zone-index c.zone-item.result (ZoneHolds c.zone-item.result)
    c.loop-zone-test.true c.zone-item.is c.loop-zone.invariant c.in_ok-push_united.ensures
    (λ a b n some le. ((λ h. h), (λ h. h)))

pub returns : goal.returns
returns c =
    HoldExactly-all (λ (R : Pairs). R) c.loop-zone.united.items c.args.zones.now c.args.zones.now
    c.loop-zone.zone-index c.loop-zone-test.false refl c.loop-zone.invariant
