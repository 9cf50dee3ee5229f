-- Planes of events: on which segments of a trace one event happens, one bit each, 64 to a word.
use Rattle.std.specs.Prelude.{◌≡◌, ℕ, List, length, map, slice_index}
use Rattle.std.specs.Int.{bit_at}
use Rattle.tre_trace.specs.Planes.{bit_in, words_for}
use Rattle.tre_trace.specs.declared.segment.Segment.{Segment}

-- the events at the begin of the segment at a place, none past the last
abbrev pub events_at : List Segment → ℕ → ℕ
events_at segments place = slice_index (map (λ segment. segment.ev) segments) place

-- The words are the plane of the event of this number: the bit of each place says whether it
-- happens at the begin of the segment there, and the bits past the last segment are 0.
pub record IsEventPlane (number : ℕ) (segments : List Segment) (words : List ℕ) : Type 0 where
  pub size : length words ≡ words_for (length segments)
  pub bits : (place : ℕ) → bit_in words place ≡ bit_at (events_at segments place) number
