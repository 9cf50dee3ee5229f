-- What the atoms say of a whole trace, by the places of its segments.
use Rattle.std.specs.Int.{bit_at}
use Rattle.std.proofs.Common.{◌⊎◌, ◌≡◌, ℕ, ◌+◌, ◌*◌, ◌<◌, ◌≤◌, ◌↔◌, List, [], ◌∷◌, ◌++◌, Option, Some, None, refl, ap, inl, inr, ⊎_elim, arith, rules}
use Rattle.std.proofs.Math.Nat.{mul-lt-mul_of_pos_right}
use Rattle.tre_trace.specs.declared.segment.Segment.{Segment}
use Rattle.tre_trace.specs.Literal.{HoldsBetween, LiteralMatches}
use Rattle.tre_trace.specs.Trace.{Timeline, end_of, AreLong}
use Rattle.tre_trace.proofs.Segments.{end_of-append}
use Rattle.tre_syntax.specs.Neighbours.{MeetAt, HasEventAt, IsBetweenNeighbours, IsThroughout, IsWhereHappens}
use Rattle.tre_syntax.specs.Rest.{HasEdge, HasEvent, EdgeMatches, EventMatches, whole}
use Rattle.tre_syntax.proofs.Atoms.{end_of-le}

module _ (P Q : ℕ → Type 0) where
  -- an edge behind a segment is one between two neighbours
  meet_behind : (start : ℕ) (previous : Segment) (rest : List Segment) (t : ℕ)
      → HasEdge P Q (start + previous.len) (Some previous.val) rest t
      → MeetAt P Q start (previous ∷ rest) t
  meet_behind start previous [] t h = absurd h
  meet_behind start previous (next ∷ rest) t h =
      ⊎_elim
      (λ here. record {
        front = [];
        one = previous;
        other = next;
        back = rest;
        parts = refl;
        time =
            here.0;
        ends = here.1;
        begins = here.2;
      })
      (λ later.
      let more = meet_behind (start + previous.len) next rest t later in
      record {
        front = previous ∷ more.front;
        one = more.one;
        other = more.other;
        back = more.back;
        parts = ap (λ (xs : List Segment). previous ∷ xs) more.parts;
        time = more.time;
        ends = more.ends;
        begins = more.begins;
      })
      h

  meet_in : (segments : List Segment) (t : ℕ) → HasEdge P Q 0 None segments t
      → MeetAt P Q 0 segments t
  meet_in [] t h = absurd h
  meet_in (first ∷ rest) t h =
      ⊎_elim (λ here. absurd here.1) (λ later. meet_behind 0 first rest t later) h

  -- and where two neighbours meet so there is an edge
  edge_where : (start : ℕ) (before : Option ℕ) (front : List Segment) (one other : Segment)
      (back : List Segment) → P one.val → Q other.val
      → HasEdge P Q start before (front ++ one ∷ other ∷ back) (end_of start front + one.len)
  edge_where start before [] one other back ends begins = inr (inl (refl, ends, begins))
  edge_where start before (s ∷ front) one other back ends begins =
      inr (edge_where (start + s.len) (Some s.val) front one other back ends begins)

  edge_of : (segments : List Segment) (t : ℕ) → MeetAt P Q 0 segments t
      → HasEdge P Q 0 None segments t
  edge_of segments t m =
      search (rules, edge_where, m.front, m.one, m.other, m.back, m.ends, m.begins)

  pub edge_iff : (trace : Timeline) (a b n : ℕ) → EdgeMatches P Q (whole trace) a b n
      ↔ IsBetweenNeighbours P Q trace.segments a b n
  edge_iff trace a b n = search (rules, meet_in, edge_of, trace.segments)

  -- where each segment is some ticks long, neighbours meet neither at the start nor at the end
  long_pair : (front : List Segment) (one other : Segment) (back : List Segment)
      → AreLong (front ++ one ∷ other ∷ back) → (1 ≤ one.len) × (1 ≤ other.len)
  long_pair [] one other back long = (long.0, long.1.0)
  long_pair (s ∷ front) one other back long = long_pair front one other back long.1

  meet_inside : (segments : List Segment) (t : ℕ) → AreLong segments → MeetAt P Q 0 segments t
      → (0 < t) × (t < end_of 0 segments)
  meet_inside segments t long m =
      search (rules, long_pair, end_of, end_of-append, end_of-le, m.front, m.one, m.other, m.back)

  pub edge_inside : (trace : Timeline) (a b n : ℕ) → 0 < n → AreLong trace.segments
      → EdgeMatches P Q (whole trace) a b n
      → (0 < a) × (b < end_of 0 trace.segments * n)
  edge_inside trace a b n some long h =
      let inside = meet_inside trace.segments h.time long
      (meet_in trace.segments h.time h.there) in
      let late : 0 * n < h.time * n = mul-lt-mul_of_pos_right inside.0 some in
      let early : h.time * n < end_of 0 trace.segments * n =
      mul-lt-mul_of_pos_right inside.1 some in
      (omega (arith, late, h.begin), omega (arith, early, h.end))

module _ (number : ℕ) where
  -- an event is one of a segment that begins there, or of the end
  event_in : (start : ℕ) (segments : List Segment) (last t : ℕ)
      → HasEvent number start segments last t
      → HasEventAt number start segments t
      ⊎ ((t ≡ end_of start segments) × (bit_at last number ≡ 1))
  event_in start [] last t h = inr h
  event_in start (s ∷ rest) last t h =
      ⊎_elim
      (λ here. inl (record {
        front = [];
        segment = s;
        back = rest;
        parts = refl;
        time = here.0;
        happens = here.1;
      }))
      (λ later. ⊎_elim
      (λ more. inl (record {
        front = s ∷ more.front;
        segment = more.segment;
        back = more.back;
        parts = ap (λ (xs : List Segment). s ∷ xs) more.parts;
        time = more.time;
        happens = more.happens;
      }))
      (λ at. inr at)
      (event_in (start + s.len) rest last t later))
      h

  -- and where a segment begins with it, or the end has it, it is
  event_where : (start : ℕ) (front : List Segment) (segment : Segment) (back : List Segment)
      (last : ℕ) → bit_at segment.ev number ≡ 1
      → HasEvent number start (front ++ segment ∷ back) last (end_of start front)
  event_where start [] segment back last happens = inl (refl, happens)
  event_where start (s ∷ front) segment back last happens =
      inr (event_where (start + s.len) front segment back last happens)

  event_last : (start : ℕ) (segments : List Segment) (last : ℕ) → bit_at last number ≡ 1
      → HasEvent number start segments last (end_of start segments)
  event_last start [] last happens = (refl, happens)
  event_last start (s ∷ rest) last happens = inr (event_last (start + s.len) rest last happens)

  event_of : (segments : List Segment) (last t : ℕ) → HasEventAt number 0 segments t
      ⊎ ((t ≡ end_of 0 segments) × (bit_at last number ≡ 1))
      → HasEvent number 0 segments last t
  event_of segments last t h = search (rules, event_where, event_last)

  pub event_iff : (trace : Timeline) (a b n : ℕ) → EventMatches number (whole trace) a b n
      ↔ IsWhereHappens number trace a b n
  event_iff trace a b n = search (rules, event_in, event_of, trace.segments, trace.last)

module _ (P : ℕ → Type 0) (a b n : ℕ) where
  holds_at : (start : ℕ) (front : List Segment) (segment : Segment) (back : List Segment)
      → HoldsBetween P start (front ++ segment ∷ back) a b n
      → end_of start front * n < b → a < (end_of start front + segment.len) * n → P segment.val
  holds_at start [] segment back h begins ends = h.0 begins ends
  holds_at start (s ∷ front) segment back h begins ends =
      holds_at (start + s.len) front segment back h.1 begins ends

  holds_each : (start : ℕ) (segments : List Segment)
      → ((front : List Segment) (segment : Segment) (back : List Segment)
      → segments ≡ front ++ segment ∷ back → end_of start front * n < b
      → a < (end_of start front + segment.len) * n → P segment.val)
      → HoldsBetween P start segments a b n
  holds_each start [] each = tt
  holds_each start (s ∷ rest) each = (
    λ begins ends. each [] s rest refl begins ends,
    holds_each (start + s.len) rest
        (λ front segment back parts begins ends. each (s ∷ front) segment back
        (ap (λ (xs : List Segment). s ∷ xs) parts) begins ends),
  )

  pub literal_iff : (segments : List Segment) → LiteralMatches P 0 segments a b n
      ↔ IsThroughout P segments a b n
  literal_iff segments = search (rules, holds_at, holds_each)
