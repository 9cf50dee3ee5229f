-- Planes: the truth of one proposition on the segments of a trace, one bit each, 64 to a word.
use Rattle.std.specs.Prelude.{◌≡◌, ℕ, ◌+◌, ◌/◌, ◌%◌, List, length, map, slice_index}
use Rattle.std.specs.Int.{bit_at}
use Rattle.tre_trace.specs.declared.segment.Segment.{Segment}

-- the bit of a place, the lowest of each word first; 0 past the last word
abbrev pub bit_in : List ℕ → ℕ → ℕ
bit_in words place = bit_at (slice_index words (place / 64)) (place % 64)

-- the valuation of the segment at a place, 0 past the last
abbrev pub valuation_at : List Segment → ℕ → ℕ
valuation_at segments place = slice_index (map (λ segment. segment.val) segments) place

-- how many words have a bit for each of so many segments
abbrev pub words_for : ℕ → ℕ
words_for count = (count + 63) / 64

-- The words are the plane of the proposition of this number: the bit of each place is that of the
-- segment there, and the bits past the last segment are 0.
pub record IsPlane (number : ℕ) (segments : List Segment) (words : List ℕ) : Type 0 where
  pub size : length words ≡ words_for (length segments)
  pub bits : (place : ℕ) → bit_in words place ≡ bit_at (valuation_at segments place) number
