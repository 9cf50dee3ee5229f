-- The laws of the atoms over a rest: they scale, are ordered and bounded, and don't see where a
-- segment is cut in two.
use Rattle.std.proofs.Common.{ℕ, ◌+◌, ◌*◌, ◌<◌, ◌≤◌, List, [], ◌∷◌, Option, Some, ap, ⊎_elim, arith, rules}
use Rattle.std.proofs.Math.Nat.{mul-lt-mul_of_pos_left, lt_of_mul-lt-mul_left, eq_of_mul-eq-mul_left}
use Rattle.tre_pairs.proofs.Laws.{Scales, IsOrdered, IsInstant, IsBounded}
use Rattle.tre_pairs.proofs.Ticks.{le_up, le_down, ge_up, ge_down, lt_up, lt_down, gt_up, gt_down}
use Rattle.tre_state.specs.StateTree.{HoldsOn}
use Rattle.tre_trace.specs.declared.segment.Segment.{Segment}
use Rattle.tre_trace.specs.Literal.{HoldsBetween, LiteralMatches}
use Rattle.tre_trace.specs.Trace.{end_of}
use Rattle.tre_syntax.specs.PatternTree.{Atom, empty, literal, rise, fall, event}
use Rattle.tre_syntax.specs.Rest.{Rest, HasEdge, HasEvent, EdgeMatches, EmptyMatches, AtomMatches}
use Rattle.tre_syntax.proofs.Instants.{Scales-Instant, IsOrdered-Instant, IsBounded-Instant}

-- segments end no earlier than they begin
pub end_of-le : (start : ℕ) (segments : List Segment) → start ≤ end_of start segments
end_of-le start [] = omega arith
end_of-le start (s ∷ rest) = let later = end_of-le (start + s.len) rest in omega arith

module _ (P : ℕ → Type 0) where
  between_up : (k a b n : ℕ) → 0 < k → (start : ℕ) (segments : List Segment)
      → HoldsBetween P start segments a b n → HoldsBetween P start segments (k * a) (k * b) (k * n)
  between_up k a b n pos start [] h = tt
  between_up k a b n pos start (s ∷ rest) h = (
    λ begins ends. h.0 (lt_down k start b n begins) (gt_down k (start + s.len) a n ends),
    between_up k a b n pos (start + s.len) rest h.1,
  )

  between_down : (k a b n : ℕ) → 0 < k → (start : ℕ) (segments : List Segment)
      → HoldsBetween P start segments (k * a) (k * b) (k * n) → HoldsBetween P start segments a b n
  between_down k a b n pos start [] h = tt
  between_down k a b n pos start (s ∷ rest) h = (
    λ begins ends. h.0 (lt_up k start b n pos begins) (gt_up k (start + s.len) a n pos ends),
    between_down k a b n pos (start + s.len) rest h.1,
  )

  module _ (start : ℕ) (segments : List Segment) where
    pub Scales-Literal : Scales (LiteralMatches P start segments)
    Scales-Literal = record {
      up = λ k a b n pos h. record {
        begin = le_up k start a n h.begin;
        some_time = mul-lt-mul_of_pos_left h.some_time pos;
        end = ge_up k (end_of start segments) b n h.end;
        throughout = between_up k a b n pos start segments h.throughout;
      };
      down = λ k a b n pos h. record {
        begin = le_down k start a n pos h.begin;
        some_time = lt_of_mul-lt-mul_left k h.some_time;
        end = ge_down k (end_of start segments) b n pos h.end;
        throughout = between_down k a b n pos start segments h.throughout;
      };
    }

    pub IsOrdered-Literal : IsOrdered (LiteralMatches P start segments)
    IsOrdered-Literal = record { le = λ a b n h. let lt = h.some_time in omega arith }

    pub IsBounded-Literal : IsBounded start (end_of start segments)
        (LiteralMatches P start segments)
    IsBounded-Literal = record { begin = λ a b n h. h.begin; end = λ a b n h. h.end }

module _ (P Q : ℕ → Type 0) where
  -- an edge lies within the segments
  pub HasEdge-begin : (start : ℕ) (before : Option ℕ) (segments : List Segment) (t : ℕ)
      → HasEdge P Q start before segments t → start ≤ t
  HasEdge-begin start before [] t h = absurd h
  HasEdge-begin start before (s ∷ rest) t h =
      ⊎_elim (λ here. let at = here.0 in omega arith) (λ later. let le =
      HasEdge-begin (start + s.len) (Some s.val) rest t later in omega arith) h

  pub HasEdge-end : (start : ℕ) (before : Option ℕ) (segments : List Segment) (t : ℕ)
      → HasEdge P Q start before segments t → t ≤ end_of start segments
  HasEdge-end start before [] t h = absurd h
  HasEdge-end start before (s ∷ rest) t h =
      ⊎_elim (λ here. let at = here.0 in omega (arith, end_of-le (start + s.len) rest))
      (λ later. HasEdge-end (start + s.len) (Some s.val) rest t later) h

module _ (number : ℕ) where
  -- and so does an event
  pub HasEvent-begin : (start : ℕ) (segments : List Segment) (last t : ℕ)
      → HasEvent number start segments last t → start ≤ t
  HasEvent-begin start [] last t h = let at = h.0 in omega arith
  HasEvent-begin start (s ∷ rest) last t h =
      ⊎_elim (λ here. let at = here.0 in omega arith) (λ later. let le =
      HasEvent-begin (start + s.len) rest last t later in omega arith) h

  pub HasEvent-end : (start : ℕ) (segments : List Segment) (last t : ℕ)
      → HasEvent number start segments last t → t ≤ end_of start segments
  HasEvent-end start [] last t h = let at = h.0 in omega arith
  HasEvent-end start (s ∷ rest) last t h =
      ⊎_elim (λ here. let at = here.0 in omega (arith, end_of-le (start + s.len) rest))
      (λ later. HasEvent-end (start + s.len) rest last t later) h

module _ (rest : Rest) where
  Scales-Empty : Scales (EmptyMatches rest)
  Scales-Empty = record {
    up = λ k a b n pos h. record {
      begin = le_up k rest.start a n h.begin;
      same = ap (λ x. k * x) h.same;
      end = ge_up k (end_of rest.start rest.segments) b n h.end;
    };
    down = λ k a b n pos h. record {
      begin = le_down k rest.start a n pos h.begin;
      same = eq_of_mul-eq-mul_left k pos a b h.same;
      end = ge_down k (end_of rest.start rest.segments) b n pos h.end;
    };
  }

  pub IsInstant-Empty : IsInstant (AtomMatches rest empty)
  IsInstant-Empty = record { same = λ a b n h. h.same }

  -- when an edge may be, and when an event
  abbrev EdgeTime : (ℕ → Type 0) → (ℕ → Type 0) → ℕ → Type 0
  EdgeTime P Q = HasEdge P Q rest.start rest.before rest.segments

  abbrev EventTime : ℕ → ℕ → Type 0
  EventTime number = HasEvent number rest.start rest.segments rest.last

  pub Scales-Atom : (x : Atom) → Scales (AtomMatches rest x)
  Scales-Atom empty = Scales-Empty
  Scales-Atom (literal s) = Scales-Literal (HoldsOn s) rest.start rest.segments
  Scales-Atom (rise s) = Scales-Instant (EdgeTime (λ v. ¬ HoldsOn s v) (HoldsOn s))
  Scales-Atom (fall s) = Scales-Instant (EdgeTime (HoldsOn s) (λ v. ¬ HoldsOn s v))
  Scales-Atom (event i) = Scales-Instant (EventTime i)

  pub IsOrdered-Atom : (x : Atom) → IsOrdered (AtomMatches rest x)
  IsOrdered-Atom empty = record { le = λ a b n h. let same = h.same in omega arith }
  IsOrdered-Atom (literal s) = IsOrdered-Literal (HoldsOn s) rest.start rest.segments
  IsOrdered-Atom (rise s) = IsOrdered-Instant (EdgeTime (λ v. ¬ HoldsOn s v) (HoldsOn s))
  IsOrdered-Atom (fall s) = IsOrdered-Instant (EdgeTime (HoldsOn s) (λ v. ¬ HoldsOn s v))
  IsOrdered-Atom (event i) = IsOrdered-Instant (EventTime i)

  IsBounded-Edge : (P Q : ℕ → Type 0)
      → IsBounded rest.start (end_of rest.start rest.segments) (EdgeMatches P Q rest)
  IsBounded-Edge P Q = search (rules, IsBounded-Instant, end_of, HasEdge-begin, HasEdge-end)

  pub IsBounded-Atom : (x : Atom)
      → IsBounded rest.start (end_of rest.start rest.segments) (AtomMatches rest x)
  IsBounded-Atom empty = search rules
  IsBounded-Atom (literal s) = IsBounded-Literal (HoldsOn s) rest.start rest.segments
  IsBounded-Atom (rise s) = IsBounded-Edge (λ v. ¬ HoldsOn s v) (HoldsOn s)
  IsBounded-Atom (fall s) = IsBounded-Edge (HoldsOn s) (λ v. ¬ HoldsOn s v)
  IsBounded-Atom (event i) = search (rules, IsBounded-Instant, end_of, HasEvent-begin, HasEvent-end)
