use Rattle.std.proofs.Common.{refl, ◌++◌}
use Rattle.tre_zone.specs.Longest.{LastsUpTo}
use Rattle.tre_star.proofs.Short.{short_additive}
use Rattle.tre_pairs.specs.Pairs.{Pairs, Composed, Lasting}
use Rattle.tre_zone.specs.Zone.{ZoneHolds}
use Rattle.tre_zone.specs.ZoneList.{SetHolds}
use Rattle.tre_zone.proofs.ZoneListLemmas.{SetHolds-empty}
use Rattle.tre_zoneset.proofs.Unions.{HoldExactly-each, HoldExactly-none, HoldExactly-all}
use Rattle.tre_star.proofs.Composing.{Composed-additive_left}
use Rattle.tre_star.proofs.composition.compose_in_turn.Goals as goal

pub loop-zone-init : goal.loop-zone-init
loop-zone-init c = record {
  tails = tt;
  held = rw c.in_ok-found.ensures.items (HoldExactly-none _
      (λ a b n h. SetHolds-empty _ _ _ h.related.left));
}

pub loop-zone-preserved : goal.loop-zone-preserved
loop-zone-preserved c = record {
  tails = c.in_ok-gather_followed.ensures.tails;
  held = HoldExactly-each (λ (R : Pairs). Lasting (LastsUpTo c.args.longest)
      (Composed R (SetHolds (c.args.second.now ++ c.args.others.now))))
      (short_additive (LastsUpTo c.args.longest)
      (λ (R : Pairs). Composed R (SetHolds (c.args.second.now ++ c.args.others.now)))
      (Composed-additive_left (SetHolds (c.args.second.now ++ c.args.others.now))))
      c.loop-zone.found.items
      c.gather_followed.new.found.items c.args.first.now c.loop-zone.zone-index
      c.zone-item.result (Lasting (LastsUpTo c.args.longest)
      (Composed (ZoneHolds c.zone-item.result)
      (SetHolds (c.args.second.now ++ c.args.others.now))))
      c.loop-zone-test.true c.zone-item.is c.loop-zone.invariant.held
      c.in_ok-gather_followed.ensures.held
      (λ a b n some le. ((λ h. h), (λ h. h)));
}

pub returns : goal.returns
returns c =
    HoldExactly-all (λ (R : Pairs). Lasting (LastsUpTo c.args.longest)
    (Composed R (SetHolds (c.args.second.now ++ c.args.others.now))))
    c.loop-zone.found.items c.args.first.now c.args.first.now c.loop-zone.zone-index
    c.loop-zone-test.false refl c.loop-zone.invariant.held
