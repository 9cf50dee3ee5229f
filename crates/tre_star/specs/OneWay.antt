-- Steps of which each can be followed by the next one alone.
use Rattle.std.specs.Prelude.{ℕ, ◌+◌, ◌<◌, ◌≢◌, List, length, slice_index_or}
use Rattle.tre_pairs.specs.Pairs.{Composed}
use Rattle.tre_zone.specs.Zone.{ZoneHolds, HasNoPair}
use Rattle.tre_zone.specs.declared.zone_bounds.ZoneBounds.{ZoneBounds}

-- No step but the next one begins where the step at the place ends.
pub record LeadsOn (steps : List ZoneBounds) (place : ℕ) : Type 0 where
  pub alone : (k : ℕ) (d : ZoneBounds) → k < length steps → k ≢ place + 1
      → HasNoPair (Composed (ZoneHolds (slice_index_or steps place d))
      (ZoneHolds (slice_index_or steps k d)))

-- The same of each of them.
pub record LeadOn (steps : List ZoneBounds) : Type 0 where
  pub each : (place : ℕ) → place < length steps → LeadsOn steps place
