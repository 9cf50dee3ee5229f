use Rattle.std.proofs.Common.{take}
use Rattle.tre_compose.specs.Begins.{BeginsOf}
use Rattle.tre_zone.specs.ZoneList.{SetHolds, HoldExactly}
use Rattle.tre_star.proofs.begins.begins_in.Given as goal

abbrev pub invariant-loop-zone : goal.invariant-loop-zone
invariant-loop-zone l = HoldExactly l.found.items (BeginsOf (SetHolds (take l.zone-index l.zones)))
