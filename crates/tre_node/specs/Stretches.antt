-- Stretches of moments at which pairs begin.
use Rattle.std.specs.Prelude.{◌≡◌, ℕ, ◌-◌, ◌<◌, ◌⊎◌, ◌↔◌, All, List, [], ◌∷◌, Option, MatchOption, pos, ◌+ℤ◌, ◌≤ℤ◌, get_or}
use Rattle.tre_zone.specs.Bound.{Meets}
use Rattle.tre_zone.specs.Held.{Held}
use Rattle.tre_zone.specs.declared.zone_bounds.ZoneBounds.{ZoneBounds}
use Rattle.tre_forms.specs.Begun.{BeginsBefore}
use Rattle.tre_node.specs.declared.node.Stretch.{Stretch}
use Rattle.tre_node.specs.IsNode.{IsStretch}

-- The moment a/n is in the stretch.
pub record IsIn (stretch : Stretch) (a n : ℕ) : Type 0 where
  pub low : Meets stretch.low 0 a n
  pub high : Meets stretch.high a 0 n

-- It is in one of the list.
unfoldable pub IsBegin : List Stretch → ℕ → ℕ → Type 0
IsBegin [] a n = ⊥
IsBegin (stretch ∷ stretches) a n = IsIn stretch a n ⊎ IsBegin stretches a n

-- The other begins no earlier, and there is no gap between both.
pub record GoesOnAs (one other : Stretch) : Type 0 where
  pub later : other.low ≤ℤ one.low
  pub no_gap : pos 1 ≤ℤ (one.high +ℤ other.low)

-- The whole has the moments of both.
pub record IsOfBoth (one other whole : Stretch) : Type 0 where
  pub each : (a n : ℕ) → 0 < n → IsIn whole a n ↔ (IsIn one a n ⊎ IsIn other a n)
  pub is : (time : ℕ) → IsStretch time one → IsStretch time other → IsStretch time whole

-- The same of the stretch before the place, and another.
pub record JoinsBefore (begun : List Stretch) (place : ℕ) (other whole : Stretch) : Type 0 where
  pub one : Stretch
  pub some : 0 < place
  pub is : one ≡ get_or begun (place - 1) one
  pub both : IsOfBoth one other whole

-- The new list has the moments of the old one, and these.
pub record AddsMoments (old : List Stretch) (these : ℕ → ℕ → Type 0) (new : List Stretch) : Type 0
  where
    pub begins : (a n : ℕ) → 0 < n → IsBegin new a n ↔ (IsBegin old a n ⊎ these a n)

-- The new list has the moments of the old one and of the stretch, and is of stretches where they
-- are.
pub record AddsStretch (old : List Stretch) (stretch : Stretch) (new : List Stretch) : Type 0 where
  pub begins : AddsMoments old (IsIn stretch) new
  pub are : (time : ℕ) → All (IsStretch time) old → IsStretch time stretch → All (IsStretch time) new

-- The new list has the moments of the old one, and is of stretches where that is.
pub record SameMoments (old new : List Stretch) : Type 0 where
  pub begins : (a n : ℕ) → 0 < n → IsBegin new a n ↔ IsBegin old a n
  pub are : (time : ℕ) → All (IsStretch time) old → All (IsStretch time) new

-- The stretch of the begins of the pairs of the zone that end before the time, where there are any.
abbrev pub GivesBegins : ℕ → ZoneBounds → Option Stretch → Type 0
GivesBegins time zone answer = MatchOption answer
    ((a n : ℕ) → 0 < n → BeginsBefore time (Held (zone ∷ [])) a n → ⊥)
    (λ stretch. IsStretch time stretch
    × ((a n : ℕ) → 0 < n → IsIn stretch a n ↔ BeginsBefore time (Held (zone ∷ [])) a n))
