use Rattle.std.proofs.Common.{◌+◌, ◌-◌, List}
use Rattle.tre_pairs.specs.declared.TheConstants.{TIME_MAX}
use Rattle.tre_zone.specs.ZoneList.{AreCanonical}
use Rattle.tre_zone.specs.declared.zone_bounds.ZoneBounds.{ZoneBounds}
use Rattle.tre_strips.specs.Spun.{IsSpun, HaveSamePairs}
use Rattle.tre_strips.specs.Sweep.{IsSwept}
use Rattle.tre_strips.proofs.canonical.spin.Given as goal

abbrev pub invariant-loop-sweep : goal.invariant-loop-sweep
invariant-loop-sweep l = record {
  swept : IsSwept l.zones l.sweep.open_zones.items l.sweep.waiting l.sweep.time;
  spun : (set : List ZoneBounds) → AreCanonical set → HaveSamePairs set l.zones
      → IsSpun set l.initial.run.bars.items l.initial.run.from l.initial.run.takes_from
      l.initial.found.items l.initial.sweep.time
      → IsSpun set l.run.bars.items l.run.from l.run.takes_from l.found.items l.sweep.time;
}

abbrev pub decreases-loop-sweep : goal.decreases-loop-sweep
decreases-loop-sweep l = TIME_MAX + 1 - l.sweep.time
