use Rattle.std.proofs.Common.{take}
use Rattle.tre_zone.specs.Held.{IsLatest}
use Rattle.tre_zone.proofs.latest.latest_end.Given as goal

abbrev pub invariant-loop-zone : goal.invariant-loop-zone
invariant-loop-zone l = IsLatest l.latest (take l.zone-index l.zones)
