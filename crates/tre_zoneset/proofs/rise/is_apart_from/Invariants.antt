use Rattle.std.proofs.Common.{take}
use Rattle.tre_zone.specs.ZoneList.{IsApartFrom}
use Rattle.tre_zoneset.proofs.rise.is_apart_from.Given as goal

abbrev pub invariant-loop-other : goal.invariant-loop-other
invariant-loop-other l = IsApartFrom l.zone (take l.other-index l.others)
