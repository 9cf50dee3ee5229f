use Rattle.std.proofs.Common.{◌-◌, ◌≤◌, List, length, take}
use Rattle.tre_pairs.specs.Pairs.{Either}
use Rattle.tre_zone.specs.ZoneList.{SetHolds, HoldExactly}
use Rattle.tre_zone.specs.declared.zone_bounds.ZoneBounds.{ZoneBounds}
use Rattle.tre_star.proofs.Looking.{After}
use Rattle.tre_star.proofs.composition.gather_on.Given as goal

abbrev pub invariant-loop-place : goal.invariant-loop-place
invariant-loop-place l = record {
  most : 1 ≤ l.most;
  held : (start : List ZoneBounds)
      → HoldExactly l.initial.found.items
      (Either (SetHolds start) (After l.longest l.zone (SetHolds (take l.from l.second))))
      → HoldExactly l.found.items
      (Either (SetHolds start) (After l.longest l.zone (SetHolds (take l.place l.second))));
}

abbrev pub decreases-loop-place : goal.decreases-loop-place
decreases-loop-place l = length l.second - l.place
