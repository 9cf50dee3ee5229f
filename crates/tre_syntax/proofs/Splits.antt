-- A segment and the two that it is cut into, with the same valuation and its events at the begin of
-- the first, are the same to every atom.
use Rattle.std.proofs.Common.{◌≡◌, ℕ, ◌+◌, ◌*◌, ◌<◌, ◌≤◌, List, [], ◌∷◌, ◌++◌, Option, Some, sym, ap, subst, inl, inr, ⊎_elim, arith, add_assoc}
use Rattle.std.proofs.lemmas.Bool.{cases_lt}
use Rattle.std.proofs.Math.Nat.{mul-le-mul_right}
use Rattle.std.proofs.lemmas.Nat.Bits.{bit_at-zero}
use Rattle.tre_pairs.proofs.Laws.{Implies}
use Rattle.tre_state.specs.StateTree.{HoldsOn}
use Rattle.tre_trace.specs.declared.segment.Segment.{Segment}
use Rattle.tre_trace.specs.Segments.{segment_with, plain_segment}
use Rattle.tre_trace.specs.Literal.{HoldsBetween}
use Rattle.tre_trace.specs.Trace.{end_of, timeline_of}
use Rattle.tre_syntax.specs.PatternTree.{Atom, empty, literal, rise, fall, event}
use Rattle.tre_syntax.specs.Rest.{rest_of, HasEdge, HasEvent, EdgeMatches, AtomMatches}
use Rattle.tre_syntax.proofs.Instants.{Implies-Instant}

module _ (first second val ev : ℕ) (back : List Segment) where
  -- the segments from the one that is cut on, and once it is cut
  abbrev pub one : List Segment
  one = segment_with (first + second) val ev ∷ back

  abbrev pub two : List Segment
  two = segment_with first val ev ∷ plain_segment second val ∷ back

  end_of-split : (start : ℕ) (front : List Segment)
      → end_of start (front ++ one) ≡ end_of start (front ++ two)
  end_of-split start [] = ap (λ t. end_of t back) (sym (add_assoc start first second))
  end_of-split start (s ∷ front) = end_of-split (start + s.len) front

  module _ (P : ℕ → Type 0) (a b n : ℕ) where
    between_split : (start : ℕ) (front : List Segment) → HoldsBetween P start (front ++ one) a b n
        → HoldsBetween P start (front ++ two) a b n
    between_split start [] h =
        let early : start + first ≤ start + (first + second) = omega arith in
        let late : start ≤ start + first = omega arith in (
          λ begins ends. h.0 begins (omega (arith, ends, mul-le-mul_right n early)),
          (
            λ begins ends. h.0 (omega (arith, begins, mul-le-mul_right n late))
                (subst (λ t. a < t * n) (add_assoc start first second) ends),
            subst (λ t. HoldsBetween P t back a b n) (sym (add_assoc start first second)) h.1,
          ),
        )
    between_split start (s ∷ front) h = (h.0, between_split (start + s.len) front h.1)

    between_joined : (start : ℕ) (front : List Segment) → a < b
        → HoldsBetween P start (front ++ two) a b n → HoldsBetween P start (front ++ one) a b n
    between_joined start [] lt h = (
      λ begins ends. ⊎_elim (λ early. h.0 begins early)
          (λ late. h.1.0 (omega (arith, lt, late))
          (subst (λ t. a < t * n) (sym (add_assoc start first second)) ends))
          (cases_lt a ((start + first) * n)),
      subst (λ t. HoldsBetween P t back a b n) (add_assoc start first second) h.1.1,
    )
    between_joined start (s ∷ front) lt h = (h.0, between_joined (start + s.len) front lt h.1)

  module _ (P Q : ℕ → Type 0) where
    edge_split : (start : ℕ) (before : Option ℕ) (front : List Segment) (t : ℕ)
        → HasEdge P Q start before (front ++ one) t → HasEdge P Q start before (front ++ two) t
    edge_split start before [] t h =
        ⊎_elim (λ here. inl here)
        (λ later.
        inr
        (inr
        (subst (λ x. HasEdge P Q x (Some val) back t)
        (sym (add_assoc start first second)) later))) h
    edge_split start before (s ∷ front) t h =
        ⊎_elim (λ here. inl here)
        (λ later. inr (edge_split (start + s.len) (Some s.val) front t later)) h

    edge_joined : ((w : ℕ) → P w → Q w → ⊥)
        → (start : ℕ) (before : Option ℕ) (front : List Segment) (t : ℕ)
        → HasEdge P Q start before (front ++ two) t → HasEdge P Q start before (front ++ one) t
    edge_joined apart start before [] t h =
        ⊎_elim (λ here. inl here)
        (λ later. ⊎_elim (λ between. absurd (apart val between.1 between.2))
        (λ last.
        inr (subst (λ x. HasEdge P Q x (Some val) back t) (add_assoc start first second) last))
        later) h
    edge_joined apart start before (s ∷ front) t h =
        ⊎_elim (λ here. inl here)
        (λ later. inr (edge_joined apart (start + s.len) (Some s.val) front t later)) h

  module _ (number last : ℕ) where
    event_split : (start : ℕ) (front : List Segment) (t : ℕ)
        → HasEvent number start (front ++ one) last t
        → HasEvent number start (front ++ two) last t
    event_split start [] t h =
        ⊎_elim (λ here. inl here)
        (λ later.
        inr
        (inr
        (subst (λ x. HasEvent number x back last t) (sym (add_assoc start first second)) later))) h
    event_split start (s ∷ front) t h =
        ⊎_elim (λ here. inl here) (λ later. inr (event_split (start + s.len) front t later)) h

    event_joined : (start : ℕ) (front : List Segment) (t : ℕ)
        → HasEvent number start (front ++ two) last t
        → HasEvent number start (front ++ one) last t
    event_joined start [] t h =
        ⊎_elim (λ here. inl here)
        (λ later. ⊎_elim
        (λ between. let none = bit_at-zero number in let some = between.1 in
        absurd (omega (arith, none, some)))
        (λ behind.
        inr (subst (λ x. HasEvent number x back last t) (add_assoc start first second) behind))
        later) h
    event_joined start (s ∷ front) t h =
        ⊎_elim (λ here. inl here) (λ later. inr (event_joined (start + s.len) front t later)) h

  module _ (start : ℕ) (before : Option ℕ) (front : List Segment) (last : ℕ) where
    split_end : (b n : ℕ) → b ≤ end_of start (front ++ one) * n
        → b ≤ end_of start (front ++ two) * n
    split_end b n le = subst (λ t. b ≤ t * n) (end_of-split start front) le

    joined_end : (b n : ℕ) → b ≤ end_of start (front ++ two) * n
        → b ≤ end_of start (front ++ one) * n
    joined_end b n le = subst (λ t. b ≤ t * n) (sym (end_of-split start front)) le

    edge_implies_split : (P Q : ℕ → Type 0)
        → Implies (EdgeMatches P Q (rest_of start before (timeline_of (front ++ one) last)))
        (EdgeMatches P Q (rest_of start before (timeline_of (front ++ two) last)))
    edge_implies_split P Q = Implies-Instant (HasEdge P Q start before (front ++ one))
        (HasEdge P Q start before (front ++ two)) (edge_split P Q start before front)

    edge_implies_joined : (P Q : ℕ → Type 0) → ((w : ℕ) → P w → Q w → ⊥)
        → Implies (EdgeMatches P Q (rest_of start before (timeline_of (front ++ two) last)))
        (EdgeMatches P Q (rest_of start before (timeline_of (front ++ one) last)))
    edge_implies_joined P Q apart = Implies-Instant (HasEdge P Q start before (front ++ two))
        (HasEdge P Q start before (front ++ one)) (edge_joined P Q apart start before front)

    pub Implies-split : (x : Atom)
        → Implies (AtomMatches (rest_of start before (timeline_of (front ++ one) last)) x)
        (AtomMatches (rest_of start before (timeline_of (front ++ two) last)) x)
    Implies-split empty = record {
      at = λ a b n h. record { begin = h.begin; same = h.same; end = split_end b n h.end };
    }
    Implies-split (literal s) = record {
      at = λ a b n h. record {
        begin = h.begin;
        some_time = h.some_time;
        end = split_end b n h.end;
        throughout = between_split (HoldsOn s) a b n start front h.throughout;
      };
    }
    Implies-split (rise s) = edge_implies_split (λ w. ¬ HoldsOn s w) (HoldsOn s)
    Implies-split (fall s) = edge_implies_split (HoldsOn s) (λ w. ¬ HoldsOn s w)
    Implies-split (event i) = Implies-Instant (HasEvent i start (front ++ one) last)
        (HasEvent i start (front ++ two) last) (event_split i last start front)

    pub Implies-joined : (x : Atom)
        → Implies (AtomMatches (rest_of start before (timeline_of (front ++ two) last)) x)
        (AtomMatches (rest_of start before (timeline_of (front ++ one) last)) x)
    Implies-joined empty = record {
      at = λ a b n h. record { begin = h.begin; same = h.same; end = joined_end b n h.end };
    }
    Implies-joined (literal s) = record {
      at = λ a b n h. record {
        begin = h.begin;
        some_time = h.some_time;
        end = joined_end b n h.end;
        throughout = between_joined (HoldsOn s) a b n start front h.some_time h.throughout;
      };
    }
    Implies-joined (rise s) =
        edge_implies_joined (λ w. ¬ HoldsOn s w) (HoldsOn s) (λ w no yes. no yes)
    Implies-joined (fall s) =
        edge_implies_joined (HoldsOn s) (λ w. ¬ HoldsOn s w) (λ w yes no. no yes)
    Implies-joined (event i) = Implies-Instant (HasEvent i start (front ++ two) last)
        (HasEvent i start (front ++ one) last) (event_joined i last start front)
