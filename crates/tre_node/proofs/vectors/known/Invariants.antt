use Rattle.std.proofs.Common.{take}
use Rattle.tre_zone.specs.ZoneList.{AreCanonical}
use Rattle.tre_node.proofs.vectors.known.Given as goal

abbrev pub invariant-loop-zone : goal.invariant-loop-zone
invariant-loop-zone l = AreCanonical (take l.zone-index l.zones)
