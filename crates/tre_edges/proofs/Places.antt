-- The places of a trace, and the times at which their segments begin.
use Rattle.std.proofs.Common.{◌≡◌, ℕ, zero, suc, take, drop, length, get_or, ◌+◌, ◌-◌, ◌<◌, ◌≤◌, List, [], ◌∷◌, ap, ◌∙◌, arith}
use Rattle.std.proofs.lemmas.List.{take_more, drop_more, get_or-map}
use Rattle.tre_pairs.specs.declared.TheConstants.{TIME_MAX}
use Rattle.tre_trace.specs.declared.segment.Segment.{Segment}
use Rattle.tre_trace.specs.Planes.{valuation_at}
use Rattle.tre_trace.specs.Segments.{plain_segment}
use Rattle.tre_trace.specs.Trace.{end_of, AreLong, IsTrace}
use Rattle.tre_trace.proofs.Segments.{end_of-append, end_of-le, end_of-from, end_of-take-le}

-- when the segment at the place begins
abbrev pub time_of : List Segment → ℕ → ℕ
time_of segments place = end_of 0 (take place segments)

long_at : (segments : List Segment) (place : ℕ) (d : Segment) → AreLong segments
    → place < length segments → 1 ≤ (get_or segments place d).len
long_at [] place d long within = absurd (omega arith)
long_at (segment ∷ rest) zero d long within = long.0
long_at (segment ∷ rest) (suc place) d long within =
    long_at rest place d long.1 (omega (arith, within))

pub time_of-mono : (segments : List Segment) (from to : ℕ) → from ≤ to
    → time_of segments from ≤ time_of segments to
time_of-mono segments from to order =
    omega (
      arith,
      end_of-from 0 segments from to order,
      end_of-le (time_of segments from) (take (to - from) (drop from segments)),
    )

-- The segment at a place.
module _ (segments : List Segment) (place : ℕ) (within : place < length segments) where
  abbrev none : Segment
  none = plain_segment 0 0

  abbrev pub here : Segment
  here = get_or segments place none

  pub time_of-next : time_of segments (place + 1) ≡ time_of segments place + here.len
  time_of-next =
      ap (end_of 0) (take_more segments place none within)
      ∙ end_of-append 0 (take place segments) (here ∷ [])

  pub rest_here : drop place segments ≡ here ∷ drop (place + 1) segments
  rest_here = drop_more segments place none within

  pub valuation_here : valuation_at segments place ≡ here.val
  valuation_here = get_or-map (λ segment. segment.val) segments place none 0 within

  pub later : IsTrace segments → time_of segments place + 1 ≤ time_of segments (place + 1)
  later trace = omega (arith, time_of-next, long_at segments place none trace.long within)

pub time_of-limit : (segments : List Segment) (place : ℕ) → IsTrace segments
    → time_of segments place ≤ TIME_MAX
time_of-limit segments place trace =
    omega (arith, end_of-take-le 0 segments place, trace.in_time)
