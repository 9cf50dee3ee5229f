use Rattle.std.proofs.Common.{refl}
use Rattle.tre_pairs.specs.Pairs.{Pairs}
use Rattle.tre_pairs.specs.Except.{Except}
use Rattle.tre_zone.specs.Zone.{ZoneHolds}
use Rattle.tre_zone.specs.ZoneList.{SetHolds}
use Rattle.tre_zone.proofs.ZoneListLemmas.{SetHolds-empty}
use Rattle.tre_zoneset.proofs.Unions.{HoldExactly-each, HoldExactly-none, HoldExactly-all}
use Rattle.tre_minus.proofs.Differences.{Except-additive, Together-first}
use Rattle.tre_minus.proofs.difference.left_by_index.Goals as goal

pub loop-zone-init : goal.loop-zone-init
loop-zone-init c = record {
  index = c.in_ok-index_of.ensures;
  none = c.new-parts.ensures.items;
  held = rw c.new-found.ensures.items
      (HoldExactly-none _ (λ a b n h. SetHolds-empty _ _ _ h.related));
}

pub loop-zone-preserved : goal.loop-zone-preserved
loop-zone-preserved c = record {
  index = c.loop-zone.invariant.index;
  none = c.in_ok-compare_all.ensures.none;
  held =
      HoldExactly-each (λ (R : Pairs). Except R (SetHolds c.args.taken.now))
      (Except-additive (SetHolds c.args.taken.now)) c.loop-zone.found.items
      c.compare_all.new.found.items c.args.zones.now c.loop-zone.zone-index
      c.zone-item.result (Except (ZoneHolds c.zone-item.result) (SetHolds c.args.taken.now))
      c.loop-zone-test.true c.zone-item.is c.loop-zone.invariant.held
      (Together-first c.args.taken.now c.loop-zone.found.items c.zone-item.result
      c.loop-zone.parts.items _ c.compare_all.new.found.items c.loop-zone.invariant.none
      refl refl
      (rw c.in_ok-push.ensures.items at c.in_ok-compare_all.ensures.held))
      (λ a b n some le. ((λ h. h), (λ h. h)));
}

pub returns : goal.returns
returns c =
    HoldExactly-all (λ (R : Pairs). Except R (SetHolds c.args.taken.now))
    c.loop-zone.found.items c.args.zones.now c.args.zones.now c.loop-zone.zone-index
    c.loop-zone-test.false refl c.loop-zone.invariant.held

pub compare_all-requires-clause-index : goal.compare_all-requires-clause-index
compare_all-requires-clause-index c = c.loop-zone.invariant.index
