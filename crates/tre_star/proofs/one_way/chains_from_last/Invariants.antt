use Rattle.std.proofs.Common.{◌≤◌, length}
use Rattle.tre_zone.specs.Longest.{LastsUpTo}
use Rattle.tre_zone.specs.Zone.{IsInstantBetween}
use Rattle.tre_star.proofs.OneWay.{AreFoundFrom}
use Rattle.tre_star.proofs.one_way.chains_from_last.Given as goal

abbrev pub invariant-loop-left : goal.invariant-loop-left
invariant-loop-left l = record {
  count : l.left ≤ length l.steps;
  from : AreFoundFrom (LastsUpTo l.limits.longest) (IsInstantBetween l.limits.from l.limits.to)
      l.steps l.left l.found.items l.last.items;
}

abbrev pub decreases-loop-left : goal.decreases-loop-left
decreases-loop-left l = l.left
