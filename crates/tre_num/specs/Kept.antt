-- What a reader of rows keeps: the bytes that it was fed, in pieces.
use Rattle.std.specs.Prelude.{◌≡◌, ◌≤◌, ◌==◌, ℕ, Bool, false, List, [], ◌∷◌, ◌++◌, length, drop}

-- the bytes of pieces, one after the other
abbrev pub joined : List (List ℕ) → List ℕ
joined [] = []
joined (piece ∷ pieces) = piece ++ joined pieces

-- the bytes that are left, where so many of the first piece were read
abbrev pub left_of : ℕ → List (List ℕ) → List ℕ
left_of place [] = []
left_of place (piece ∷ pieces) = drop place piece ++ joined pieces

-- Only bytes of the first piece were read.
abbrev pub IsInFirst : ℕ → List (List ℕ) → Type 0
IsInFirst place [] = place ≡ 0
IsInFirst place (piece ∷ pieces) = place ≤ length piece

-- whether the first piece was read to its end
abbrev pub is_read : ℕ → List (List ℕ) → Bool
is_read place [] = false
is_read place (piece ∷ pieces) = length piece == place

-- The reader has kept just these bytes, and more may come.
pub record HasKept (kept : List ℕ) (fed : ℕ) (is_spent : Bool) (bytes : List ℕ) : Type 0 where
  pub same : kept ≡ bytes
  pub counts : fed ≡ length bytes
  pub goes_on : is_spent ≡ false
