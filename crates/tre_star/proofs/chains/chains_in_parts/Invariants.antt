use Rattle.std.proofs.Common.{◌-◌, ◌≤◌, length, take, drop}
use Rattle.tre_pairs.specs.Pairs.{Lasting}
use Rattle.tre_zone.specs.Longest.{LastsUpTo}
use Rattle.tre_zone.specs.Zone.{IsInstantBetween}
use Rattle.tre_zone.specs.ZoneList.{SetHolds, HoldExactly}
use Rattle.tre_star.specs.Parts.{SomeSteps, LieBefore}
use Rattle.tre_star.proofs.chains.chains_in_parts.Given as goal

abbrev pub invariant-loop-start : goal.invariant-loop-start
invariant-loop-start l = record {
  within : l.start ≤ length l.steps;
  before : LieBefore (take l.start l.steps) (drop l.start l.steps);
  held : HoldExactly l.chains (Lasting (LastsUpTo l.limits.longest)
      (SomeSteps (SetHolds (take l.start l.steps)) (IsInstantBetween l.limits.from l.limits.to)));
}

abbrev pub decreases-loop-start : goal.decreases-loop-start
decreases-loop-start l = length l.steps - l.start
