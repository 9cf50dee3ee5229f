use Rattle.std.proofs.Common.{take}
use Rattle.tre_zoneset.specs.ZoneSet.{IsThinned}
use Rattle.tre_zoneset.proofs.zone_set.thin.Given as goal

abbrev pub invariant-loop-zone : goal.invariant-loop-zone
invariant-loop-zone l = IsThinned (take l.zone-index l.zones) l.kept
