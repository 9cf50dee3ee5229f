-- What is done to the bits of words.
use Rattle.std.specs.Prelude.{◌≡◌, ℕ, ◌-◌, ◌≤◌, ◌<◌, List, length}
use Rattle.tre_trace.specs.Planes.{bit_in, words_for}

-- The new words have the bits of the old ones on the first `count` places, and 0 past them.
pub record AreCleared (count : ℕ) (old new : List ℕ) : Type 0 where
  pub size : length new ≡ length old
  pub kept : (place : ℕ) → place < count → bit_in new place ≡ bit_in old place
  pub past : (place : ℕ) → count ≤ place → bit_in new place ≡ 0

-- The new words have the opposite bits on the first `count` places, and 0 past them.
pub record AreOpposite (count : ℕ) (old new : List ℕ) : Type 0 where
  pub size : length new ≡ words_for count
  pub flipped : (place : ℕ) → place < count → bit_in new place ≡ 1 - bit_in old place
  pub past : (place : ℕ) → count ≤ place → bit_in new place ≡ 0

-- The words have the bit 1 on the first `count` places, and 0 past them.
pub record AreOnes (count : ℕ) (words : List ℕ) : Type 0 where
  pub size : length words ≡ words_for count
  pub set : (place : ℕ) → place < count → bit_in words place ≡ 1
  pub past : (place : ℕ) → count ≤ place → bit_in words place ≡ 0
