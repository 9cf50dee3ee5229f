use Rattle.std.proofs.Common.{refl, rules}
use Rattle.tre_pairs.specs.Pairs.{Pairs, Either, Composed, Lasting}
use Rattle.tre_zone.specs.Longest.{LastsUpTo}
use Rattle.tre_zone.specs.Zone.{ZoneHolds}
use Rattle.tre_zone.specs.ZoneList.{SetHolds}
use Rattle.tre_zone.proofs.ZoneListLemmas.{SetHolds-empty}
use Rattle.tre_zoneset.specs.ZoneSet.{FoundHolds}
use Rattle.tre_zoneset.proofs.Unions.{HoldExactly-each_beside, HoldExactly-none_beside, HoldExactly-all, FoundHolds-exact}
use Rattle.tre_star.proofs.Composing.{Composed-additive_left}
use Rattle.tre_star.proofs.Reaching.{HasGrown-none, HasGrown-then}
use Rattle.tre_star.proofs.Short.{short_additive, Lasting-exact}
use Rattle.tre_star.proofs.chains.add_each_before.Goals as goal

pub loop-step-init : goal.loop-step-init
loop-step-init c =
    search (rules, HoldExactly-none_beside, SetHolds-empty, HasGrown-none, c.args.reached.now)

pub loop-step-preserved : goal.loop-step-preserved
loop-step-preserved c = record {
  held = HoldExactly-each_beside
      (λ (R : Pairs). Lasting (LastsUpTo c.args.longest) (Composed R (ZoneHolds c.args.zone.now)))
      (short_additive (LastsUpTo c.args.longest)
      (λ (R : Pairs). Composed R (ZoneHolds c.args.zone.now))
      (Composed-additive_left (ZoneHolds c.args.zone.now)))
      c.args.reached.now c.loop-step.reached c.add_found.new.reached
      c.args.steps.now c.loop-step.step-index c.step-item.result
      (Lasting (LastsUpTo c.args.longest) (FoundHolds c.compose.result))
      c.loop-step-test.true c.step-item.is c.loop-step.invariant.held
      c.in_ok-add_found.ensures.held
      (Lasting-exact (LastsUpTo c.args.longest) (FoundHolds c.compose.result)
      (Composed (ZoneHolds c.step-item.result) (ZoneHolds c.args.zone.now))
      (FoundHolds-exact c.compose.result (Composed (ZoneHolds c.step-item.result)
      (ZoneHolds c.args.zone.now)) c.compose.ensures.pairs));
  grown = HasGrown-then c.args.reached.now c.loop-step.reached c.add_found.new.reached
      c.loop-step.invariant.grown c.in_ok-add_found.ensures.grown;
}

pub add_found-requires-clause-reached : goal.add_found-requires-clause-reached
add_found-requires-clause-reached c = c.loop-step.invariant.grown.canonical

pub returns-clause-held : goal.returns-clause-held
returns-clause-held c =
    HoldExactly-all
    (λ (R : Pairs). Either (SetHolds c.args.reached.now)
    (Lasting (LastsUpTo c.args.longest) (Composed R (ZoneHolds c.args.zone.now))))
    c.loop-step.reached c.args.steps.now c.args.steps.now c.loop-step.step-index
    c.loop-step-test.false refl c.loop-step.invariant.held
