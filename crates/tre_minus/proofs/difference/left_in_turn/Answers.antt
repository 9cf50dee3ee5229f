use Rattle.std.proofs.Common.{refl}
use Rattle.tre_pairs.specs.Pairs.{Pairs}
use Rattle.tre_pairs.specs.Except.{Except}
use Rattle.tre_zone.specs.Zone.{ZoneHolds}
use Rattle.tre_zone.specs.ZoneList.{SetHolds}
use Rattle.tre_zone.proofs.ZoneListLemmas.{SetHolds-empty}
use Rattle.tre_zoneset.proofs.Unions.{HoldExactly-each, HoldExactly-none, HoldExactly-all}
use Rattle.tre_minus.proofs.Differences.{Except-additive}
use Rattle.tre_minus.proofs.difference.left_in_turn.Goals as goal

pub loop-zone-init : goal.loop-zone-init
loop-zone-init c = record {
  none = c.new-parts.ensures.items;
  held = rw c.new-found.ensures.items
      (HoldExactly-none _ (λ a b n h. SetHolds-empty _ _ _ h.related));
}

pub loop-zone-preserved : goal.loop-zone-preserved
loop-zone-preserved c = record {
  none = c.in_ok-near.ensures.none;
  held =
      HoldExactly-each (λ (R : Pairs). Except R (SetHolds c.args.taken.now))
      (Except-additive (SetHolds c.args.taken.now)) c.loop-zone.found.items
      c.leave_near.new.found.items c.args.zones.now c.loop-zone.zone-index
      c.zone-item.result (Except (ZoneHolds c.zone-item.result) (SetHolds c.args.taken.now))
      c.loop-zone-test.true c.zone-item.is c.loop-zone.invariant.held
      c.in_ok-near.ensures.held (λ a b n some le. ((λ h. h), (λ h. h)));
}

pub returns : goal.returns
returns c =
    HoldExactly-all (λ (R : Pairs). Except R (SetHolds c.args.taken.now))
    c.loop-zone.found.items c.args.zones.now c.args.zones.now c.loop-zone.zone-index
    c.loop-zone-test.false refl c.loop-zone.invariant.held
