-- Zones that rise, one behind the other.
use Rattle.std.specs.Prelude.{◌≡◌, ◌⊎◌, ℤ, ◌<ℤ◌, Option, Some, None}
use Rattle.tre_zone.specs.declared.zone_bounds.ZoneBounds.{ZoneBounds}
use Rattle.tre_zoneset.specs.declared.rise.High.{High}
use Rattle.tre_zoneset.specs.declared.rise.High.TheVariants.{Begin, End}

-- The first of two keys are less, or they are equal and the second ones are less.
unfoldable pub IsLess : ℤ → ℤ → ℤ → ℤ → Type 0
IsLess first second next_first next_second =
    (first <ℤ next_first) ⊎ ((first ≡ next_first) × (second <ℤ next_second))

-- By its high bounds the zone begins later, or begins alike and ends later; or it ends later, or
-- ends alike and lasts longer.
unfoldable pub IsHigher : High → ZoneBounds → ZoneBounds → Type 0
IsHigher Begin before zone = IsLess before.begin_high before.end_high zone.begin_high zone.end_high
IsHigher End before zone = IsLess before.end_high before.dur_high zone.end_high zone.dur_high

-- By its low bounds the zone begins later, or begins alike and ends later, and it is higher.
pub record Rises (high : High) (before zone : ZoneBounds) : Type 0 where
  pub later : IsLess zone.begin_low zone.end_low before.begin_low before.end_low
  pub higher : IsHigher high before zone

-- The same behind the zone before it, if there is one.
unfoldable pub IsBehind : High → Option ZoneBounds → ZoneBounds → Type 0
IsBehind high None zone = Unit {0}
IsBehind high (Some before) zone = Rises high before zone
