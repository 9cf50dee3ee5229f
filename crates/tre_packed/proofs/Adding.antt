-- Segments that are added to others, part by part.
use Rattle.std.proofs.Common.{◌≡◌, ℕ, ◌+◌, ◌-◌, ◌*◌, ◌/◌, ◌≤◌, ◌<◌, List, [], ◌∷◌, ◌++◌, length, take, drop, get_or, sym, ap, subst, ◌∙◌, arith}
use Rattle.std.proofs.lemmas.List.{append_assoc, length-append, take-append-drop, take-append-le}
use Rattle.tre_pairs.specs.declared.TheConstants.{TIME_MAX}
use Rattle.tre_trace.proofs.Blocks.{take_in_two}
use Rattle.tre_trace.proofs.Segments.{end_of-append, end_of-le}
use Rattle.tre_trace.specs.Beside.{AreBeside}
use Rattle.tre_trace.specs.declared.planes.Planes.{Planes}
use Rattle.tre_trace.specs.declared.segment.Segment.{Segment}
use Rattle.tre_trace.specs.Trace.{end_of, AreLong, IsTrace}

-- each segment lasts a tick at least
count-le : (start : ℕ) (segments : List Segment) → AreLong segments
    → start + length segments ≤ end_of start segments
count-le start [] long = omega arith
count-le start (segment ∷ rest) long =
    omega (arith, count-le (start + segment.len) rest long.1, long.0)

pub count-limit : (segments : List Segment) → IsTrace segments → length segments ≤ TIME_MAX
count-limit segments trace = omega (arith, count-le 0 segments trace.long, trace.in_time)

AreLong-front : (xs ys : List Segment) → AreLong (xs ++ ys) → AreLong xs
AreLong-front [] ys long = tt
AreLong-front (x ∷ xs) ys long = (long.0, AreLong-front xs ys long.1)

-- the first segments of a trace are one
IsTrace-front : (xs ys : List Segment) → IsTrace (xs ++ ys) → IsTrace xs
IsTrace-front xs ys trace = record {
  long = AreLong-front xs ys trace.long;
  in_time = omega (arith, trace.in_time, end_of-append 0 xs ys, end_of-le (end_of 0 xs) ys);
}

module _ (front all : List Segment) (from to : ℕ) (order : from ≤ to) where
  abbrev part : List Segment
  part = take (to - from) (drop from all)

  pub part_is : (front ++ take from all) ++ take (to - from) (drop from all) ≡ front ++ take to all
  part_is =
      append_assoc front (take from all) part
      ∙ ap (λ l. front ++ l) (take_in_two all from to order)

  pub part_fits : IsTrace (front ++ all)
      → IsTrace ((front ++ take from all) ++ take (to - from) (drop from all))
  part_fits trace =
      let whole : front ++ all ≡ (front ++ take to all) ++ drop to all =
      ap (λ l. front ++ l) (sym (take-append-drop to all))
      ∙ sym (append_assoc front (take to all) (drop to all)) in
      rw part_is (IsTrace-front (front ++ take to all) (drop to all) (subst IsTrace whole trace))

-- when the block begins that the first of the added segments is in
pub start_is : (front block : List Segment) (planes : Planes) (count : ℕ) → count ≡ length front
    → 0 < length block → AreBeside (front ++ block) planes
    → get_or planes.starts.items (count / 64) 0 ≡ end_of 0 (take (length front / 64 * 64) front)
start_is front block planes count same some beside =
    let below : count / 64 < length planes.starts.items =
    omega (arith, same, some, beside.starts.enough, length-append front block) in
    beside.starts.times (count / 64) below
    ∙ ap (end_of 0) (take-append-le (count / 64 * 64) front block (omega (arith, same)))
    ∙ ap (λ n. end_of 0 (take (n / 64 * 64) front)) same
