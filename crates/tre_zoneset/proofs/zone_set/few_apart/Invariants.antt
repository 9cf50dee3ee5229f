use Rattle.std.proofs.Common.{take}
use Rattle.tre_zone.specs.ZoneList.{SetHolds, HoldExactly}
use Rattle.tre_zoneset.proofs.zone_set.few_apart.Given as goal

abbrev pub invariant-loop-zone : goal.invariant-loop-zone
invariant-loop-zone l = HoldExactly l.kept (SetHolds (take l.zone-index l.zones))
