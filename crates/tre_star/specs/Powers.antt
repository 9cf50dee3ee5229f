-- Zones of chains: what repeating the pairs of one zone leads to.
use Rattle.std.specs.Prelude.{ℕ, ◌<◌, ◌≤◌, ◌≡◌, List, pos, neg_ℤ, ◌≤ℤ◌, ◌^◌}
use Rattle.tre_pairs.specs.SameTime.{SameTime}
use Rattle.tre_zone.specs.Bound.{value_of, weakness_of, sum_of}
use Rattle.tre_zone.specs.Zone.{ZoneHolds, AreValuesWithin}
use Rattle.tre_zone.specs.ZoneList.{SetHolds, AreCanonical}
use Rattle.tre_zone.specs.declared.zone_bounds.ZoneBounds.{ZoneBounds}
use Rattle.tre_star.specs.Parts.{SomeSteps}

-- Each pair of the limit is led through by pairs of the zone, one or more of them.
pub record AreChainsOf (limit zone : ZoneBounds) : Type 0 where
  pub leads : (a b n : ℕ) → 0 < n → a ≤ b → ZoneHolds limit a b n
      → SomeSteps (ZoneHolds zone) SameTime a b n

-- The steps have the pairs of the zones, and beside them only such as these lead through.
pub record AreStepsOf (steps zones : List ZoneBounds) : Type 0 where
  pub canonical : AreCanonical steps
  pub more : (a b n : ℕ) → 0 < n → SetHolds zones a b n → SetHolds steps a b n
  pub long : (a b n : ℕ) → 0 < n → SetHolds steps a b n
      → SomeSteps (SetHolds zones) SameTime a b n

-- The bounds of pairs that last `total` at least: each may begin so early, and end so late, that
-- a first pair of the zone from there on, and a last one up to there, are in the zone's bounds.
pub record IsLimit (total : ℕ) (limit zone : ZoneBounds) : Type 0 where
  pub begin : limit.begin_low ≤ℤ zone.begin_low
  pub first_end : sum_of limit.begin_low zone.dur_low ≤ℤ zone.end_low
  pub end : limit.end_high ≤ℤ zone.end_high
  pub last_begin : sum_of limit.end_high zone.dur_low ≤ℤ zone.begin_high
  pub lasts : value_of limit.dur_low ≡ neg_ℤ (pos total)
  pub weakness : weakness_of limit.dur_low ≡ weakness_of zone.dur_low
  pub values : AreValuesWithin (2 ^ 42) limit
