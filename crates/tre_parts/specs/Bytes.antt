-- Where a byte of a class stands.
use Rattle.std.specs.Prelude.{◌≡◌, ℕ, ◌-◌, ◌<◌, ◌≤◌, Bool, true, false, List, length, take, drop, slice_index_or}

-- From the one place on, and before the other, there is none.
abbrev pub NoneBetween : (ℕ → Bool) → List ℕ → ℕ → ℕ → Type 0
NoneBetween has bytes from to =
    (k : ℕ) → from ≤ k → k < to → has (slice_index_or bytes k 0) ≡ false

-- The first one from there on is at this place.
pub record IsNextAt (has : ℕ → Bool) (bytes : List ℕ) (from place : ℕ) : Type 0 where
  pub behind : from ≤ place
  pub within : place < length bytes
  pub none : NoneBetween has bytes from place
  pub here : has (slice_index_or bytes place 0) ≡ true

-- the bytes from the one place on, up to the other
abbrev pub between : List ℕ → ℕ → ℕ → List ℕ
between bytes from to = take (to - from) (drop from bytes)
