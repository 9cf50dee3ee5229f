-- What a trace keeps beside its segments.
use Rattle.std.specs.Prelude.{◌≡◌, ℕ, ◌*◌, ◌≤◌, ◌<◌, List, length}
use Rattle.std.specs.Int.{bit_at}
use Rattle.tre_trace.specs.declared.segment.Segment.{Segment}
use Rattle.tre_trace.specs.declared.planes.Planes.{Planes}
use Rattle.tre_trace.specs.Planes.{bit_in}
use Rattle.tre_trace.specs.Starts.{AreStarts}
use Rattle.tre_trace.specs.Trace.{end_of}
use Rattle.tre_trace.specs.Words.{AreWordsOf, HasRoom, words_at}

-- What is kept beside these segments.
pub record AreBeside (segments : List Segment) (planes : Planes) : Type 0 where
  pub starts : AreStarts segments planes.starts.items
  pub blank_enough : length segments ≤ length planes.blank * 64
  pub blank_bits : (place : ℕ) → bit_in planes.blank place ≡ 0
  pub few : length planes.own.items ≤ 64
  pub own : (number : ℕ) → number < 64
      → AreWordsOf number segments (words_at planes.own.items number)

-- There is room for a segment of this valuation at the place.
pub record HasRoomAt (place valuation : ℕ) (planes : Planes) : Type 0 where
  pub starts : place < length planes.starts.items * 64
  pub blank : place < length planes.blank * 64
  pub own : (number : ℕ) → number < 64
      → HasRoom place (bit_at valuation number) (words_at planes.own.items number)

-- It is what is kept beside so many segments, which end at `end`.
pub record AreBesideSome (count end : ℕ) (planes : Planes) : Type 0 where
  pub segments : List Segment
  pub same : count ≡ length segments
  pub ends : end ≡ end_of 0 segments
  pub beside : AreBeside segments planes
