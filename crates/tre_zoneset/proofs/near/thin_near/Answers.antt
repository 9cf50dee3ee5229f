use Rattle.std.proofs.Common.{refl, rules}
use Rattle.tre_zone.specs.Zone.{ZoneHolds}
use Rattle.tre_zone.proofs.ZoneListLemmas.{SetHolds-empty}
use Rattle.tre_zoneset.proofs.Unions.{HoldExactly-each, HoldExactly-none, HoldExactly-all, itself-additive}
use Rattle.tre_zoneset.proofs.NearZones.{AreReached-none}
use Rattle.tre_zoneset.proofs.near.thin_near.Goals as goal

pub loop-zone-init : goal.loop-zone-init
loop-zone-init c =
    search (rules, HoldExactly-none, SetHolds-empty, AreReached-none, c.new-kept.ensures)

pub loop-zone-preserved : goal.loop-zone-preserved
loop-zone-preserved c = record {
  held =
      HoldExactly-each (λ R. R) itself-additive c.loop-zone.kept c.keep_near.new.kept
      c.args.zones.now c.loop-zone.zone-index c.zone-item.result (ZoneHolds c.zone-item.result)
      c.loop-zone-test.true c.zone-item.is c.loop-zone.invariant.held
      (c.keep_near.ensures.held (rw c.if-not-branch.false at c.in_ok-keep_near.was))
      (λ a b n some le. ((λ h. h), (λ h. h)));
  reached = c.in_ok-keep_near.ensures.reached;
}

pub returns : goal.returns
returns c =
    HoldExactly-all (λ R. R) c.loop-zone.kept c.args.zones.now c.args.zones.now
    c.loop-zone.zone-index c.loop-zone-test.false refl c.loop-zone.invariant.held
