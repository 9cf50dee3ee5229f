-- The made trace.
use Rattle.std.specs.Prelude.{ℕ, zero, suc, ◌+◌, ◌%◌, List, [], ◌∷◌, ◌++◌}
use Rattle.tre_trace.specs.Segments.{plain_segment}
use Rattle.tre_trace.specs.declared.segment.Segment.{Segment}

-- One, two or three ticks long, and proposition 0 is true on every other one.
abbrev pub made_segment : ℕ → Segment
made_segment number = plain_segment (1 + number % 3) (number % 2)

-- The first segments, as many as `count`, those of the numbers from 0 on.
unfoldable pub made_trace : ℕ → List Segment
made_trace zero = []
made_trace (suc count) = made_trace count ++ made_segment count ∷ []
