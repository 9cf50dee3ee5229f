-- The words of one proposition, and what is done to them for one more segment.
use Rattle.std.specs.Prelude.{◌≡◌, ◌≢◌, ℕ, ◌*◌, max, ◌≤◌, ◌<◌, ◌⊎◌, List, [], length, slice_index_or}
use Rattle.std.specs.Int.{bit_at}
use Rattle.tre_trace.specs.declared.segment.Segment.{Segment}
use Rattle.tre_trace.specs.Planes.{bit_in, valuation_at}

-- the words of a proposition among those of all, by their numbers; none past the last
abbrev pub words_at : List (List ℕ) → ℕ → List ℕ
words_at own number = slice_index_or own number []

-- The words of the proposition of this number: none where it was never true, and else enough for
-- all segments.
pub record AreWordsOf (number : ℕ) (segments : List Segment) (words : List ℕ) : Type 0 where
  pub enough : (words ≡ []) ⊎ (length segments ≤ length words * 64)
  pub bits : (place : ℕ) → bit_in words place ≡ bit_at (valuation_at segments place) number

-- The words have room for this bit at the place, where they need it.
pub record HasRoom (place bit : ℕ) (words : List ℕ) : Type 0 where
  pub enough : (words ≡ []) ⊎ (place < length words * 64)
  pub needed : bit ≡ 1 → place < length words * 64

-- The words are the old ones, or there are at least `count` now, with the same bits.
pub record IsStretched (count : ℕ) (old new : List ℕ) : Type 0 where
  pub longer : (new ≡ old) ⊎ (count ≤ length new)
  pub bits : (place : ℕ) → bit_in new place ≡ bit_in old place

-- The bit was put to that of the place, and all others stay.
pub record IsWritten (place bit : ℕ) (old new : List ℕ) : Type 0 where
  pub same_length : length new ≡ length old
  pub there : bit_in new place ≡ max (bit_in old place) bit
  pub others : (other : ℕ) → other ≢ place → bit_in new other ≡ bit_in old other
