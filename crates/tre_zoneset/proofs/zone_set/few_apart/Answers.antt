use Rattle.std.proofs.Common.{refl}
use Rattle.tre_zone.specs.Zone.{ZoneHolds}
use Rattle.tre_zone.proofs.ZoneListLemmas.{SetHolds-empty}
use Rattle.tre_zoneset.proofs.Unions.{HoldExactly-each, HoldExactly-none, HoldExactly-all, itself-additive}
use Rattle.tre_zoneset.proofs.zone_set.few_apart.Goals as goal

pub loop-zone-init : goal.loop-zone-init
loop-zone-init c = rw c.new-kept.ensures (HoldExactly-none _ (λ a b n h. SetHolds-empty a b n h))

pub loop-zone-preserved : goal.loop-zone-preserved
loop-zone-preserved c =
    HoldExactly-each (λ R. R) itself-additive c.loop-zone.kept c.add.new.self c.args.zones.now
    c.loop-zone.zone-index c.zone-item.result (ZoneHolds c.zone-item.result) c.loop-zone-test.true
    c.zone-item.is c.loop-zone.invariant c.in_ok-add.ensures.held
    (λ a b n some le. ((λ h. h), (λ h. h)))

pub returns-clause-held : goal.returns-clause-held
returns-clause-held c =
    rw c.into_zones.ensures.same
    (HoldExactly-all (λ R. R) c.loop-zone.kept c.args.zones.now c.args.zones.now
    c.loop-zone.zone-index c.loop-zone-test.false refl c.loop-zone.invariant)
