-- How far the begins of kept zones reach.
use Rattle.std.specs.Prelude.{◌≡◌, ℕ, ◌+◌, ◌≤◌, ◌<◌, ◌≤ℤ◌, List, [], ◌∷◌, ◌++◌, length, slice_index_or}
use Rattle.tre_zone.specs.declared.zone_bounds.ZoneBounds.{ZoneBounds}
use Rattle.tre_zoneset.specs.declared.near.Reach.{Reach}

-- The begin of the zone is within reach.
pub record IsWithin (reach : Reach) (zone : ZoneBounds) : Type 0 where
  pub low : reach.low ≤ℤ zone.begin_low
  pub high : zone.begin_high ≤ℤ reach.high

-- Each reach is that of the zones up to its place.
pub record AreReached (zones : List ZoneBounds) (reaches : List Reach) : Type 0 where
  pub count : length reaches ≡ length zones
  pub each : (k j : ℕ) (d : ZoneBounds) (r : Reach) → j ≤ k → k < length zones
      → IsWithin (slice_index_or reaches k r) (slice_index_or zones j d)

-- One more reach, at the end: it takes in the zone, and the reach before it.
pub record IsReachedTo (old : List Reach) (zone : ZoneBounds) (new : List Reach) : Type 0 where
  pub reach : Reach
  pub last : new ≡ old ++ reach ∷ []
  pub own : IsWithin reach zone
  pub before : (k : ℕ) (r : Reach) (other : ZoneBounds) → length old ≡ k + 1
      → IsWithin (slice_index_or old k r) other → IsWithin reach other
