use Rattle.std.proofs.Common.{◌-◌, ◌≤◌, List, length, take}
use Rattle.tre_pairs.specs.Pairs.{Either}
use Rattle.tre_zone.specs.ZoneList.{SetHolds, HoldExactly}
use Rattle.tre_zone.specs.declared.zone_bounds.ZoneBounds.{ZoneBounds}
use Rattle.tre_zoneset.proofs.merge.add_earlier.Given as goal

abbrev pub invariant-loop-end : goal.invariant-loop-end
invariant-loop-end l = record {
  within : l.end ≤ length l.others;
  held : (start : List ZoneBounds)
      → HoldExactly l.initial.zones.items
      (Either (SetHolds start) (SetHolds (take l.place l.others)))
      → HoldExactly l.zones.items (Either (SetHolds start) (SetHolds (take l.end l.others)));
}

abbrev pub decreases-loop-end : goal.decreases-loop-end
decreases-loop-end l = length l.others - l.end
