-- Levels of bounds over a list of rows: each bound is at least each row of its block.
use Rattle.std.specs.Prelude.{ℕ, ◌+◌, ◌/◌, max, ◌<◌, ◌≤◌, ◌≡◌, ℤ, List, [], ◌∷◌, length, slice_index_or, Option, Some}
use Rattle.tre_lanes.specs.Rows.{Reaches, FindsNext}
use Rattle.tre_index.specs.declared.level.TheConstants.{FAN}

-- The least row that reaches both.
pub record IsUpper (row one other : List ℤ) : Type 0 where
  pub first : Reaches row one
  pub second : Reaches row other
  pub least : (bound : List ℤ) → Reaches bound one → Reaches bound other → Reaches bound row

-- Each row has a bound, at the place of its block, that reaches it.
pub record IsAbove (rows bounds : List (List ℤ)) : Type 0 where
  pub room : (place : ℕ) → place < length rows → place / FAN < length bounds
  pub reaches : (place : ℕ) → place < length rows
      → Reaches (slice_index_or bounds (place / FAN) []) (slice_index_or rows place [])

-- The rows under the first of the levels, if there is one.
unfoldable pub IsUnder : List (List ℤ) → List (List (List ℤ)) → Type 0
IsUnder rows [] = Unit {0}
IsUnder rows (bounds ∷ above) = IsAbove rows bounds

-- Each level is under the next one.
unfoldable pub IsIndex : List (List (List ℤ)) → Type 0
IsIndex [] = Unit {0}
IsIndex (bounds ∷ above) = IsUnder bounds above × IsIndex above

-- A list of rows with its levels.
pub record IsIndexOf (rows : List (List ℤ)) (levels : List (List (List ℤ))) : Type 0 where
  pub under : IsUnder rows levels
  pub index : IsIndex levels

-- The bounds after the one at the place was made to reach the row.
pub record Lifted (old new : List (List ℤ)) (place : ℕ) (row : List ℤ) : Type 0 where
  pub wider : length old ≤ length new
  pub narrow : length new ≤ max (length old) (place + 1)
  pub within : place < length new
  pub reaches : Reaches (slice_index_or new place []) row
  pub risen : (k : ℕ) → k < length old → Reaches (slice_index_or new k []) (slice_index_or old k [])
  -- no bound rises more than it has to
  pub least : (k : ℕ) (bound : List ℤ) → k < length new
      → (k < length old → Reaches bound (slice_index_or old k [])) → (k ≡ place → Reaches bound row)
      → Reaches bound (slice_index_or new k [])

-- The bounds stay, and each is at least what it was.
pub record IsRisen (old new : List (List ℤ)) : Type 0 where
  pub wider : length old ≤ length new
  pub risen : (k : ℕ) → k < length old → Reaches (slice_index_or new k []) (slice_index_or old k [])

-- The same of the first of the levels, if there is one.
unfoldable pub AreRisen : List (List (List ℤ)) → List (List (List ℤ)) → Type 0
AreRisen [] new = new ≡ []
AreRisen (old ∷ above) [] = ⊥
AreRisen (old ∷ above) (new ∷ higher) = IsRisen old new

-- The first level, if there is one, has a bound at the place, or is as long as the place.
unfoldable pub HasRoom : List (List (List ℤ)) → ℕ → Type 0
HasRoom [] place = Unit {0}
HasRoom (bounds ∷ above) place = place ≤ length bounds

-- The first level, if there is one, has a bound at the place, and it reaches the row.
unfoldable pub HasBound : List (List (List ℤ)) → ℕ → List ℤ → Type 0
HasBound [] place row = Unit {0}
HasBound (bounds ∷ above) place row = (place < length bounds)
    × Reaches (slice_index_or bounds place []) row

-- The answer is the first place, from `from` on, where the first level has a bound that reaches the
-- key. With no level every place may have one.
unfoldable pub FindsBlock : List (List (List ℤ)) → List ℤ → ℕ → Option ℕ → Type 0
FindsBlock [] key from answer = answer ≡ Some from
FindsBlock (bounds ∷ above) key from answer = FindsNext bounds key from answer

-- The bounds are above the topmost of the rows and their levels.
unfoldable pub IsOnTop : List (List ℤ) → List (List (List ℤ)) → List (List ℤ) → Type 0
IsOnTop rows [] top = IsAbove rows top
IsOnTop rows (bounds ∷ above) top = IsOnTop bounds above top
