-- One pass over time.
use Rattle.std.specs.Prelude.{ℕ, ◌*◌, ◌<◌, ◌≤◌, ◌↔◌, ◌⊎◌, Bool, MatchBool, List, length, drop, nat_abs}
use Rattle.std.specs.List.Sorted.{IsNonDecreasingBy}
use Rattle.tre_pairs.specs.Pairs.{Pairs}
use Rattle.tre_zone.specs.Bound.{value_of}
use Rattle.tre_zone.specs.Zone.{ZoneHolds}
use Rattle.tre_zone.specs.ZoneList.{SetHolds, AreCanonical}
use Rattle.tre_zone.specs.declared.zone_bounds.ZoneBounds.{ZoneBounds}
use Rattle.tre_strips.specs.Profile.{IsProfile}
use Rattle.tre_strips.specs.declared.column.Column.{Column}

-- The time from which on pairs of the zone begin.
unfoldable pub begin_of : ZoneBounds → ℕ
begin_of zone = nat_abs (value_of zone.begin_low)

-- The time up to which pairs of the zone begin.
unfoldable pub last_begin_of : ZoneBounds → ℕ
last_begin_of zone = nat_abs (value_of zone.begin_high)

-- The zones are in the order of their first begins.
pub record BeginInTurn (zones : List ZoneBounds) : Type 0 where
  pub order : IsNonDecreasingBy begin_of zones
  pub canonical : AreCanonical zones

-- From the time on, pairs of the zones begin in the open ones alone, and in those from the place
-- `waiting` on.
pub record IsSwept (zones here : List ZoneBounds) (waiting time : ℕ) : Type 0 where
  pub count : waiting ≤ length zones
  pub held : (a b n : ℕ) → 0 < n → time * n ≤ a
      → SetHolds zones a b n ↔ (SetHolds here a b n ⊎ SetHolds (drop waiting zones) a b n)

-- Pairs of the zones begin at the time or later.
pub record PairsBeginFrom (time : ℕ) (zones : List ZoneBounds) : Type 0 where
  pub begin : (a b n : ℕ) → 0 < n → SetHolds zones a b n → time * n ≤ a

-- Whether pairs of the zone may begin behind the time.
pub record BeginsBehind (time : ℕ) (behind : Bool) (zone : ZoneBounds) : Type 0 where
  pub told : MatchBool behind (Unit {0})
      ((a b n : ℕ) → 0 < n → ZoneHolds zone a b n → a ≤ time * n)

-- Behind the time the lists hold the same.
pub record SameBehind (time : ℕ) (old new : List ZoneBounds) : Type 0 where
  pub same : (a b n : ℕ) → 0 < n → time * n < a → SetHolds new a b n ↔ SetHolds old a b n

-- The bars are the profiles of M at the time and behind it.
pub record IsColumn (M : Pairs) (column : Column) : Type 0 where
  pub rising : column.time < column.until
  pub there : IsProfile M column.there.items column.time column.time
  pub behind : IsProfile M column.behind.items column.time column.until
