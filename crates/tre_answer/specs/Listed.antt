-- The zones that are printed of matches.
use Rattle.std.specs.Prelude.{◌≡◌, ℕ, Bool, List, length}
use Rattle.tre_edges.specs.RunSets.{zones_of}
use Rattle.tre_syntax.specs.declared.pattern.Pattern.{Pattern}
use Rattle.tre_tell.specs.Sought.{sought_by}
use Rattle.tre_trace.specs.Trace.{Timeline}
use Rattle.tre_zone.specs.ZoneList.{HoldExactly, SetHolds}
use Rattle.tre_zone.specs.declared.zone_bounds.ZoneBounds.{ZoneBounds}
use Rattle.tre_zoneset.specs.ZoneSet.{IsZoneSet}
use Rattle.tre_answer.specs.Wanted.{AreZonesOf, IsWanted}
use Rattle.tre_answer.specs.declared.listed.Listed.{Listed}
use Rattle.tre_answer.specs.declared.listed.Listed.TheVariants.{Zones, Runs}

abbrev pub listed_zones : Listed → List ZoneBounds
listed_zones (Zones zones) = zones.items
listed_zones (Runs runs) = zones_of runs

-- The zones are those that are asked for of some set of the matches that are wanted of the
-- patterns, each over its trace.
pub record AreWantedZones (normal : Bool) (patterns : List Pattern) (traces : List Timeline)
    (zones : List ZoneBounds) : Type 0 where
  pub set : List ZoneBounds
  pub is_set : IsZoneSet set
  pub exact : (labels : List (List ℕ)) → length labels ≡ length patterns
      → HoldExactly set (IsWanted (sought_by labels patterns) traces)
  pub asked : AreZonesOf normal (SetHolds set) zones
