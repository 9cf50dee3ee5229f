-- Steps in parts of which none touches another.
use Rattle.std.specs.Prelude.{ℕ, ◌+◌, ◌-◌, ◌^◌, ◌<◌, ◌≤◌, ◌≡◌, ℤ, pos, List, length, slice_index_or, drop}
use Rattle.tre_pairs.specs.Pairs.{Pairs, Composed, Chain}
use Rattle.tre_zone.specs.Bound.{Meets, IsKeyWithin}
use Rattle.tre_zone.specs.ZoneList.{SetHolds}
use Rattle.tre_zone.specs.declared.zone_bounds.ZoneBounds.{ZoneBounds}

-- R some number of times, one after another, and at least once.
abbrev pub SomeSteps : Pairs → Pairs → Pairs
SomeSteps R E = Composed R (Chain R E)

-- Every pair of the zones meets the bound from below on its begin.
pub record BeginFrom (key : ℤ) (zones : List ZoneBounds) : Type 0 where
  pub each : (a b n : ℕ) → 0 < n → SetHolds zones a b n → Meets key 0 a n

-- Every pair of the zones meets the bound from above on its end.
pub record PairsEndBy (key : ℤ) (zones : List ZoneBounds) : Type 0 where
  pub each : (a b n : ℕ) → 0 < n → SetHolds zones a b n → Meets key b 0 n

-- Every pair of the first zones ends before any of the others begins.
pub record LieBefore (early late : List ZoneBounds) : Type 0 where
  pub each : (a b c d n : ℕ) → 0 < n → SetHolds early a b n → SetHolds late c d n → b < c

-- The first keys are those of the begins of the last zone, of the last two, and so on.
pub record AreLastBegins (count : ℕ) (begins : List ℤ) (zones : List ZoneBounds) : Type 0 where
  pub as_many : length begins ≡ count
  pub each : (place : ℕ) → place < length zones → length zones ≤ place + count
      → BeginFrom (slice_index_or begins (length zones - 1 - place) (pos 0)) (drop place zones)
  pub within : (k : ℕ) → k < count → IsKeyWithin (2 ^ 50) (slice_index_or begins k (pos 0))
