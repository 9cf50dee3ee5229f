-- The greater of two rows, as it is made lane by lane.
use Rattle.std.specs.Prelude.{ℕ, ◌<◌, ◌≤◌, ◌≡◌, ℤ, pos, List, length, slice_index_or}
use Rattle.std.specs.Int.{int_max}

-- In the lanes before the place the row is the greater of the two, and from there on the first.
pub record IsUpperBelow (one other row : List ℤ) (place : ℕ) : Type 0 where
  pub same_length : length row ≡ length one
  pub before : (k : ℕ) → k < place
      → slice_index_or row k (pos 0) ≡ int_max (slice_index_or one k (pos 0))
      (slice_index_or other k (pos 0))
  pub after : (k : ℕ) → place ≤ k → slice_index_or row k (pos 0) ≡ slice_index_or one k (pos 0)
