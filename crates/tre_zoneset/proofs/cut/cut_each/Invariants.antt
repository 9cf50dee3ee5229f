use Rattle.std.proofs.Common.{take}
use Rattle.tre_pairs.specs.Pairs.{Both}
use Rattle.tre_zone.specs.ZoneList.{SetHolds, HoldExactly}
use Rattle.tre_zoneset.specs.Cut.{Leaves}
use Rattle.tre_zoneset.proofs.cut.cut_each.Given as goal

abbrev pub invariant-loop-zone : goal.invariant-loop-zone
invariant-loop-zone l =
    HoldExactly l.found.items (Both (SetHolds (take l.zone-index l.zones)) (Leaves l.cut))
