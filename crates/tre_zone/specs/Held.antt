-- What lists of zones hold of the pairs whose first time is not after the second, and when the
-- pairs of a list end.
use Rattle.std.specs.Prelude.{◌≡◌, ℕ, ◌*◌, ◌<◌, ◌≤◌, ◌↔◌, List}
use Rattle.tre_pairs.specs.Pairs.{Pairs}
use Rattle.tre_zone.specs.ZoneList.{SetHolds}
use Rattle.tre_zone.specs.declared.zone_bounds.ZoneBounds.{ZoneBounds}

-- Some zone of the list holds the pair, the first time of which is not after the second.
pub record Held (zones : List ZoneBounds) (a b n : ℕ) : Type 0 where
  pub rising : a ≤ b
  pub held : SetHolds zones a b n

-- The zones hold the pairs of the relation and no others, and each begins no later than it ends.
pub record IsSetOf (zones : List ZoneBounds) (R : Pairs) : Type 0 where
  pub pairs : (a b n : ℕ) → 0 < n → Held zones a b n ↔ R a b n

-- Each pair of the list ends at the time.
pub record EndAt (time : ℕ) (zones : List ZoneBounds) : Type 0 where
  pub ends : (a b n : ℕ) → 0 < n → Held zones a b n → b ≡ time * n

-- Each pair of the list ends at the time or earlier.
pub record EndBy (time : ℕ) (zones : List ZoneBounds) : Type 0 where
  pub ends : (a b n : ℕ) → 0 < n → Held zones a b n → b ≤ time * n

-- The first tick by which each pair of the list has ended.
pub record IsLatest (time : ℕ) (zones : List ZoneBounds) : Type 0 where
  pub ends : EndBy time zones
  pub first : (bound : ℕ) → EndBy bound zones → time ≤ bound
