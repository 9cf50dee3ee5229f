-- A block of up to 64 segments, and what is done to the words of one proposition for it.
use Rattle.std.specs.Prelude.{◌≡◌, ◌≢◌, ℕ, ◌/◌, ◌%◌, ◌<◌, ◌⊎◌, List, [], length}
use Rattle.std.specs.Int.{bit_at}
use Rattle.tre_trace.specs.declared.segment.Segment.{Segment}
use Rattle.tre_trace.specs.Planes.{bit_in, valuation_at}

-- A proposition of which the union has no bit is true on no segment of the block.
pub record IsUnion (block : List Segment) (union : ℕ) : Type 0 where
  pub unset : (number : ℕ) → bit_at union number ≡ 0
      → (place : ℕ) → bit_at (valuation_at block place) number ≡ 0

-- The bits of the word are the values of the proposition on the block.
pub record IsWordOf (number : ℕ) (block : List Segment) (word : ℕ) : Type 0 where
  pub bits : (place : ℕ) → place < 64
      → bit_at word place ≡ bit_at (valuation_at block place) number

-- The word at the index was put to this one, where the proposition needs words, and all other bits
-- stay.
pub record IsPut (index word : ℕ) (old new : List ℕ) : Type 0 where
  pub enough : (new ≡ []) ⊎ (index < length new)
  pub there : (place : ℕ) → place / 64 ≡ index → bit_in new place ≡ bit_at word (place % 64)
  pub others : (place : ℕ) → place / 64 ≢ index → bit_in new place ≡ bit_in old place

-- The values of the proposition on the block were put to the word at the index.
pub record IsToldIn (number index : ℕ) (block : List Segment) (old new : List ℕ) : Type 0 where
  pub enough : (new ≡ []) ⊎ (index < length new)
  pub there : (place : ℕ) → place / 64 ≡ index
      → bit_in new place ≡ bit_at (valuation_at block (place % 64)) number
  pub others : (place : ℕ) → place / 64 ≢ index → bit_in new place ≡ bit_in old place
