use Rattle.std.proofs.Common.{take}
use Rattle.tre_zone.specs.ZoneList.{SetHolds}
use Rattle.tre_zoneset.specs.Cut.{LeavesAll}
use Rattle.tre_zoneset.proofs.cut.leaves_all.Given as goal

abbrev pub invariant-loop-zone : goal.invariant-loop-zone
invariant-loop-zone l = LeavesAll l.cut (SetHolds (take l.zone-index l.zones))
