-- Numbers in the order of their first use.
use Rattle.std.specs.Prelude.{◌≡◌, ℕ, ◌<◌, ◌↔◌, List, ◌∷◌, ◌++◌, Contains}

-- The numbers that stand in the list are those below the count, and each stands there only behind
-- all smaller ones.
pub record AreInOrderOfUse (count : ℕ) (numbers : List ℕ) : Type 0 where
  pub used : (i : ℕ) → i < count ↔ Contains numbers i
  pub order : (front : List ℕ) (i : ℕ) (back : List ℕ) → numbers ≡ front ++ i ∷ back → (j : ℕ)
      → j < i → Contains front j
