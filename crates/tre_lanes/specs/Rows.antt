-- Rows of keys, and the search among them.
use Rattle.std.specs.Prelude.{ℕ, ◌<◌, ◌≤◌, ℤ, pos, ◌≤ℤ◌, List, [], length, slice_index_or, Option, MatchOption}

-- The row is at least the key in every lane. Past its end a row counts as zeros.
pub record Reaches (row key : List ℤ) : Type 0 where
  pub each : (lane : ℕ) → slice_index_or key lane (pos 0) ≤ℤ slice_index_or row lane (pos 0)

-- No row from the place `from` on, and before `to`, reaches the key.
pub record HasNone (rows : List (List ℤ)) (key : List ℤ) (from to : ℕ) : Type 0 where
  pub none : (place : ℕ) → from ≤ place → place < to → place < length rows
      → Reaches (slice_index_or rows place []) key → ⊥

-- The place is the first one, from `from` on, whose row reaches the key.
pub record IsNext (rows : List (List ℤ)) (key : List ℤ) (from place : ℕ) : Type 0 where
  pub starts : from ≤ place
  pub ends : place < length rows
  pub reaches : Reaches (slice_index_or rows place []) key
  pub first : HasNone rows key from place

-- The answer is the first place, from `from` on, whose row reaches the key, None where none does.
abbrev pub FindsNext : List (List ℤ) → List ℤ → ℕ → Option ℕ → Type 0
FindsNext rows key from answer =
    MatchOption answer (HasNone rows key from (length rows)) (IsNext rows key from)
