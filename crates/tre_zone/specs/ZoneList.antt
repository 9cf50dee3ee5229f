-- Lists of zones, as sets of pairs of times.
use Rattle.std.specs.Prelude.{ℕ, ◌<◌, ◌≤◌, ◌⊎◌, ◌↔◌, List, [], ◌∷◌}
use Rattle.tre_pairs.specs.Pairs.{Pairs}
use Rattle.tre_zone.specs.Zone.{ZoneHolds, Includes, IsCanonical, HoldsSome, IsTight}
use Rattle.tre_zone.specs.declared.zone_bounds.ZoneBounds.{ZoneBounds}

unfoldable pub SetHolds : List ZoneBounds → Pairs
SetHolds [] a b n = ⊥
SetHolds (zone ∷ zones) a b n = ZoneHolds zone a b n ⊎ SetHolds zones a b n

-- Neither of two zones is included in the other.
pub record AreApart (one other : ZoneBounds) : Type 0 where
  pub left : Includes one other → ⊥
  pub right : Includes other one → ⊥

unfoldable pub IsApartFrom : ZoneBounds → List ZoneBounds → Type 0
IsApartFrom zone [] = Unit {0}
IsApartFrom zone (other ∷ others) = AreApart zone other × IsApartFrom zone others

-- No member of the list is included in another, by place: with a zone in two places it is not
-- apart.
unfoldable pub IsApart : List ZoneBounds → Type 0
IsApart [] = Unit {0}
IsApart (zone ∷ zones) = IsApartFrom zone zones × IsApart zones

-- Each of the list is a zone by its bounds: it is not empty, lies in the frame of the times that
-- can be named, and has the tightest bounds.
unfoldable pub AreCanonical : List ZoneBounds → Type 0
AreCanonical [] = Unit {0}
AreCanonical (zone ∷ zones) = IsCanonical zone × AreCanonical zones

-- Each of the list holds some pair, and each of its bounds is the tightest that its pairs allow.
unfoldable pub AreTight : List ZoneBounds → Type 0
AreTight [] = Unit {0}
AreTight (zone ∷ zones) = (HoldsSome zone × IsTight zone) × AreTight zones

-- The zones hold a pair, at every denominator, exactly where the relation holds of it.
pub record HoldExactly (zones : List ZoneBounds) (relation : Pairs) : Type 0 where
  pub exact : (a b n : ℕ) → 0 < n → a ≤ b → SetHolds zones a b n ↔ relation a b n
