-- Lists of words that are combined from the front on.
use Rattle.std.specs.Prelude.{ℕ, ◌<◌, ◌≤◌, ◌≡◌, List, length, slice_index}

-- The words before the place are those of the old list combined with b's, and from there on they
-- are the old ones.
pub record CombinedBelow (of : ℕ → ℕ → ℕ) (old b new : List ℕ) (place : ℕ) : Type 0 where
  pub within : place ≤ length old
  pub same_length : length new ≡ length old
  pub before : (k : ℕ) → k < place → slice_index new k ≡ of (slice_index old k) (slice_index b k)
  pub after : (k : ℕ) → place ≤ k → slice_index new k ≡ slice_index old k
