use Rattle.std.proofs.Common.{take}
use Rattle.tre_zone.specs.ZoneList.{SetHolds, HoldExactly}
use Rattle.tre_zoneset.proofs.touching.all_united.Given as goal

abbrev pub invariant-loop-zone : goal.invariant-loop-zone
invariant-loop-zone l = HoldExactly l.united.items (SetHolds (take l.zone-index l.zones))
