-- The strips of a set of pairs.
use Rattle.std.specs.Prelude.{ℕ, ◌↔◌, Contains, List}
use Rattle.tre_pairs.specs.Pairs.{Pairs}
use Rattle.tre_zone.specs.Zone.{IsTight, IsZoneOf}
use Rattle.tre_zone.specs.declared.zone_bounds.ZoneBounds.{ZoneBounds}
use Rattle.tre_strips.specs.Profile.{IsProfile}
use Rattle.tre_strips.specs.Runs.{IsRunOfBars, IsAlone, IsInBlock, IsInColumn}
use Rattle.tre_strips.specs.declared.bar.Bar.{Bar}

-- The zone is one of the strips of M: it is that of a bar of a run, or that of a bar over a time
-- that is in no run's strip.
pub data IsStripZone (M : Pairs) (zone : ZoneBounds) : Type 0 where
  of_run : (bars : List Bar) (from until : ℕ) (bar : Bar) → IsRunOfBars M bars from until
      → Contains bars bar → IsZoneOf zone (IsInBlock M bars from until bar) → IsStripZone M zone
  of_time : (bars : List Bar) (time : ℕ) (bar : Bar) → IsAlone M time
      → IsProfile M bars time time
      → Contains bars bar → IsZoneOf zone (IsInColumn time bar) → IsStripZone M zone

-- The zones are the strips of M, each by its tightest bounds: all of them, and no other.
pub record AreStrips (M : Pairs) (zones : List ZoneBounds) : Type 0 where
  pub exact : (zone : ZoneBounds) → Contains zones zone ↔ (IsTight zone × IsStripZone M zone)
