-- Bounds that take in all zones of a list from a place on.
use Rattle.std.specs.Prelude.{ℕ, ◌-◌, ◌^◌, ◌<◌, ◌≡◌, List, length, drop, slice_index_or}
use Rattle.tre_zone.specs.Zone.{ZoneHolds, AreKeysWithin}
use Rattle.tre_zone.specs.ZoneList.{SetHolds}
use Rattle.tre_zone.specs.declared.zone_bounds.ZoneBounds.{ZoneBounds}

-- Each pair of the zones meets the bounds.
pub record TakesIn (bounds : ZoneBounds) (zones : List ZoneBounds) : Type 0 where
  pub keys : AreKeysWithin (2 ^ 42) bounds
  pub each : (a b n : ℕ) → 0 < n → SetHolds zones a b n → ZoneHolds bounds a b n

-- So many bounds: those that take in the last zone, the last two, and so on.
pub record AreTails (count : ℕ) (tails zones : List ZoneBounds) : Type 0 where
  pub as_many : length tails ≡ count
  pub each : (k : ℕ) (d : ZoneBounds) → k < count
      → TakesIn (slice_index_or tails k d) (drop (length zones - 1 - k) zones)
