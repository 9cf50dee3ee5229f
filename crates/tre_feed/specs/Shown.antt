-- What a view shows of what was read for its group.
use Rattle.std.specs.Prelude.{ℕ, bit_and}
use Rattle.tre_trace.specs.Segments.{segment_with}
use Rattle.tre_trace.specs.declared.segment.Segment.{Segment}
use Rattle.tre_feed.specs.Places.{places_of}
use Rattle.tre_feed.specs.Taking.{bits_at}
use Rattle.tre_feed.specs.declared.view.View.{View}

-- The events of the pattern that happen where these of the group do.
abbrev pub shown_events : View → ℕ → ℕ
shown_events view bits = bits_at (places_of view.events) bits

-- What a segment of the group is for the pattern.
abbrev pub shown_segment : View → Segment → Segment
shown_segment view segment =
    segment_with segment.len (bits_at (places_of view.names) segment.val)
    (shown_events view segment.ev)

-- The segment with these bits of its names and events, and no others.
abbrev pub masked_segment : ℕ → ℕ → Segment → Segment
masked_segment names events segment =
    segment_with segment.len (bit_and segment.val names) (bit_and segment.ev events)
