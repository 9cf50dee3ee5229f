-- The segments that blocks stand for.
use Rattle.std.specs.Prelude.{ℕ, zero, suc, ◌+◌, ◌-◌, ◌*◌, ◌/◌, nat_lt, List, [], ◌∷◌, ◌++◌, length, slice_index, if◌then◌else◌}
use Rattle.tre_packed.specs.Offsets.{items_in}
use Rattle.tre_packed.specs.Said.{said_bit}
use Rattle.tre_packed.specs.declared.blocks.Blocks.{Blocks}
use Rattle.tre_trace.specs.Planes.{bit_in}
use Rattle.tre_trace.specs.Segments.{segment_with}
use Rattle.tre_trace.specs.Words.{words_at}
use Rattle.tre_trace.specs.declared.segment.Segment.{Segment}

-- the number that has these bits, so many of them, the lowest first
unfoldable pub number_of : ℕ → (ℕ → ℕ) → ℕ
number_of zero bit = 0
number_of (suc count) bit = bit 0 + 2 * number_of count (λ i. bit (suc i))

-- when the segment at the place begins: the end for the place behind the last
abbrev pub time_in : Blocks → ℕ → ℕ
time_in blocks place =
    if nat_lt place (length (items_in blocks.offsets))
    then slice_index blocks.planes.starts.items (place / 64)
    + slice_index (items_in blocks.offsets) place
    else blocks.end

-- the segment at the place
unfoldable pub segment_in : Blocks → ℕ → Segment
segment_in blocks place =
    segment_with (time_in blocks (place + 1) - time_in blocks place)
    (number_of 64 (λ number. bit_in (words_at blocks.planes.own.items number) place))
    (number_of 64 (λ number. said_bit blocks.said.items place number))

-- the first segments, so many of them
unfoldable pub segments_in : Blocks → ℕ → List Segment
segments_in blocks zero = []
segments_in blocks (suc count) = segments_in blocks count ++ segment_in blocks count ∷ []

-- all of them
unfoldable pub unpacked : Blocks → List Segment
unpacked blocks = segments_in blocks (length (items_in blocks.offsets))
