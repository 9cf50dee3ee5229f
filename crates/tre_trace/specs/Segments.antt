-- Segments by their parts.
use Rattle.std.specs.Prelude.{ℕ}
use Rattle.tre_trace.specs.declared.segment.Segment.{Segment}

abbrev pub segment_with : ℕ → ℕ → ℕ → Segment
segment_with len val ev = record { len = len; val = val; ev = ev }

abbrev pub plain_segment : ℕ → ℕ → Segment
plain_segment len val = segment_with len val 0
