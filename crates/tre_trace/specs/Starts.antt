-- When the blocks of a trace begin, each of 64 segments.
use Rattle.std.specs.Prelude.{◌≡◌, ℕ, ◌*◌, ◌≤◌, ◌<◌, List, length, take, slice_index}
use Rattle.tre_trace.specs.declared.segment.Segment.{Segment}
use Rattle.tre_trace.specs.Trace.{end_of}

-- The times are those at which the blocks begin: of all that these segments are in, and at most of
-- the next one.
pub record AreStarts (segments : List Segment) (starts : List ℕ) : Type 0 where
  pub enough : length segments ≤ length starts * 64
  pub begun : (block : ℕ) → block < length starts → block * 64 ≤ length segments
  pub times : (block : ℕ) → block < length starts
      → slice_index starts block ≡ end_of 0 (take (block * 64) segments)
