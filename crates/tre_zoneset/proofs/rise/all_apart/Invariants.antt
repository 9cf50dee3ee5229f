use Rattle.std.proofs.Common.{take}
use Rattle.tre_zoneset.specs.ZoneSet.{IsZoneSet}
use Rattle.tre_zoneset.proofs.rise.all_apart.Given as goal

abbrev pub invariant-loop-place : goal.invariant-loop-place
invariant-loop-place l = IsZoneSet (take l.place l.zones)
