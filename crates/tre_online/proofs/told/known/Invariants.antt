use Rattle.std.proofs.Common.{take}
use Rattle.tre_zone.specs.ZoneList.{AreCanonical}
use Rattle.tre_online.proofs.told.known.Given as goal

abbrev pub invariant-loop-zone : goal.invariant-loop-zone
invariant-loop-zone l = AreCanonical (take l.zone-index l.zones)
