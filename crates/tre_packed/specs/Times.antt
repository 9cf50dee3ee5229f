-- When segments begin, from the begin of the block that each is in.
use Rattle.std.specs.Prelude.{◌≡◌, ℕ, ◌+◌, ◌*◌, ◌/◌, ◌<◌, List, [], ◌∷◌, length, take, slice_index}
use Rattle.tre_trace.specs.declared.segment.Segment.{Segment}
use Rattle.tre_trace.specs.Trace.{end_of}

-- when each of the segments begins, of which the first begins at `first`
abbrev pub offsets_from : ℕ → List Segment → List ℕ
offsets_from first [] = []
offsets_from first (segment ∷ rest) = first ∷ offsets_from (first + segment.len) rest

-- The offsets are those of the segments: each begins so much later than its block of 64.
pub record AreOffsets (segments : List Segment) (offsets : List ℕ) : Type 0 where
  pub size : length offsets ≡ length segments
  pub times : (place : ℕ) → place < length segments
      → end_of 0 (take (place / 64 * 64) segments) + slice_index offsets place
      ≡ end_of 0 (take place segments)
