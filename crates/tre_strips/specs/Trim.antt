-- Zones without what others hold.
use Rattle.std.specs.Prelude.{ℕ, ◌<◌, ◌≤◌, ◌⊎◌, Option, ℤ}
use Rattle.tre_zone.specs.Bound.{Meets}
use Rattle.tre_zone.specs.Zone.{ZoneHolds}
use Rattle.tre_zone.specs.declared.zone_bounds.ZoneBounds.{ZoneBounds}
use Rattle.tre_zoneset.specs.ZoneSet.{FoundHolds}

-- The rest is of the zone, which holds no other pair but those of the other.
pub record TrimsBehind (zone other : ZoneBounds) (rest : Option ZoneBounds) : Type 0 where
  pub within : (a b n : ℕ) → 0 < n → a ≤ b → FoundHolds rest a b n → ZoneHolds zone a b n
  pub covers : (a b n : ℕ) → 0 < n → a ≤ b → ZoneHolds zone a b n
      → ZoneHolds other a b n ⊎ FoundHolds rest a b n

-- The same of the zone before, if there is one.
pub record Trims (zone : ZoneBounds) (before rest : Option ZoneBounds) : Type 0 where
  pub within : (a b n : ℕ) → 0 < n → a ≤ b → FoundHolds rest a b n → ZoneHolds zone a b n
  pub covers : (a b n : ℕ) → 0 < n → a ≤ b → ZoneHolds zone a b n
      → FoundHolds before a b n ⊎ FoundHolds rest a b n

-- The pairs of the zone that begin by the bound.
pub record Early (zone : ZoneBounds) (last : ℤ) (a b n : ℕ) : Type 0 where
  pub held : ZoneHolds zone a b n
  pub begins : Meets last a 0 n

-- The bounds of the zone, but for that on the latest begins.
abbrev pub bounds_by : ZoneBounds → ℤ → ZoneBounds
bounds_by zone last = record {
  begin_low = zone.begin_low;
  begin_high = last;
  end_low = zone.end_low;
  end_high = zone.end_high;
  dur_low = zone.dur_low;
  dur_high = zone.dur_high;
}

-- Those that begin behind it.
pub record Late (zone : ZoneBounds) (last : ℤ) (a b n : ℕ) : Type 0 where
  pub held : ZoneHolds zone a b n
  pub begins : Meets last a 0 n → ⊥

-- The other holds the pairs of the zone that begin by the bound.
pub record IsEarlyHeld (zone other : ZoneBounds) (last : ℤ) : Type 0 where
  pub held : (a b n : ℕ) → 0 < n → a ≤ b → Early zone last a b n → ZoneHolds other a b n
