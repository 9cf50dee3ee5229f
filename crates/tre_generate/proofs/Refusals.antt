-- What a refused segment says.
use Rattle.std.proofs.Common.{◌+◌, ◌≤◌, List, [], ◌∷◌, ◌++◌, arith}
use Rattle.tre_trace.specs.Trace.{end_of, AreLong, IsTrace, Fits}
use Rattle.tre_trace.specs.declared.segment.Segment.{Segment}
use Rattle.tre_trace.proofs.Segments.{end_of-append, end_of-le}

long_within : (front : List Segment) (segment : Segment) (rest : List Segment)
    → AreLong (front ++ segment ∷ rest) → 1 ≤ segment.len
long_within [] segment rest long = long.0
long_within (first ∷ front) segment rest long = long_within front segment rest long.1

-- each segment of a trace fits behind those before it
pub fits_within : (front : List Segment) (segment : Segment) (rest : List Segment)
    → IsTrace (front ++ segment ∷ rest) → Fits front segment
fits_within front segment rest trace = record {
  long = long_within front segment rest trace.long;
  in_time =
      let in_time = trace.in_time in
      let whole = end_of-append 0 front (segment ∷ rest) in
      let after = end_of-le (end_of 0 front + segment.len) rest in
      omega (arith, in_time, whole, after);
}
