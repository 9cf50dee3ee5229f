use Rattle.std.proofs.Common.{take}
use Rattle.tre_pairs.specs.Pairs.{Either, Composed, Lasting}
use Rattle.tre_zone.specs.Longest.{LastsUpTo}
use Rattle.tre_zone.specs.Zone.{ZoneHolds}
use Rattle.tre_zone.specs.ZoneList.{SetHolds, HoldExactly}
use Rattle.tre_star.specs.Growth.{HasGrown}
use Rattle.tre_star.proofs.chains.add_each_before.Given as goal

abbrev pub invariant-loop-step : goal.invariant-loop-step
invariant-loop-step l = record {
  held : HoldExactly l.reached (Either (SetHolds l.initial.reached)
      (Lasting (LastsUpTo l.longest)
      (Composed (SetHolds (take l.step-index l.steps)) (ZoneHolds l.zone))));
  grown : HasGrown l.initial.reached l.reached;
}
