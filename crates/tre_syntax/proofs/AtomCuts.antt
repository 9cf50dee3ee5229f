-- What each atom matches before a cut, behind it and across it.
use Rattle.std.proofs.Common.{ℕ, ◌+◌, ◌*◌, ◌<◌, ◌≤◌, ◌↔◌, List, [], ◌∷◌, ◌++◌, Option, Some, refl, sym, inl, inr, ⊎_elim, mul-lt-mul_of_pos_right, arith, rules}
use Rattle.std.proofs.lemmas.Bool.{cases_lt}
use Rattle.std.proofs.Math.Nat.{mul-le-mul_right}
use Rattle.tre_pairs.specs.Cuts.{IsMoment, Crossing, JoinedAt, Passing}
use Rattle.tre_pairs.specs.Pairs.{Pairs, Either, Both}
use Rattle.tre_pairs.proofs.CutLaws.{ImpliesFrom}
use Rattle.tre_pairs.proofs.Laws.{Implies}
use Rattle.tre_state.specs.StateTree.{HoldsOn}
use Rattle.tre_trace.specs.declared.segment.Segment.{Segment}
use Rattle.tre_trace.specs.Literal.{HoldsBetween, LiteralMatches}
use Rattle.tre_trace.specs.Trace.{Timeline, end_of, AreLong}
use Rattle.tre_trace.proofs.Segments.{end_of-append}
use Rattle.tre_syntax.specs.Cut.{last_of}
use Rattle.tre_syntax.specs.PatternTree.{Atom, empty, literal, rise, fall, event}
use Rattle.tre_syntax.specs.Rest.{rest_of, prefixed, InstantMatches, HasEdge, HasEvent, EdgeMatches, EmptyMatches, AtomMatches}
use Rattle.tre_syntax.proofs.Atoms.{end_of-le}
use Rattle.tre_syntax.proofs.Growth.{between_cut}
use Rattle.tre_syntax.proofs.Instants.{Implies-Instant, ImpliesFrom-Instant}

module _ (P : ℕ → Type 0) (a b n : ℕ) where
  -- what ends before a/n says nothing of what is from it on
  between_behind : (start : ℕ) (u v : List Segment) → end_of start u * n ≤ a
      → HoldsBetween P (end_of start u) v a b n → HoldsBetween P start (u ++ v) a b n
  between_behind start [] v late h = h
  between_behind start (s ∷ u) v late h =
      let le = mul-le-mul_right n (end_of-le (start + s.len) u) in (
        λ _ inside. absurd (omega (arith, inside, late, le)),
        between_behind (start + s.len) u v late h,
      )

  between_rest : (start : ℕ) (u v : List Segment) → HoldsBetween P start (u ++ v) a b n
      → HoldsBetween P (end_of start u) v a b n
  between_rest start [] v h = h
  between_rest start (s ∷ u) v h = between_rest (start + s.len) u v h.1

module _ (P Q : ℕ → Type 0) where
  edge_behind : (start : ℕ) (before : Option ℕ) (u v : List Segment) (t : ℕ)
      → HasEdge P Q (end_of start u) (last_of before u) v t
      → HasEdge P Q start before (u ++ v) t
  edge_behind start before [] v t h = h
  edge_behind start before (s ∷ u) v t h = inr (edge_behind (start + s.len) (Some s.val) u v t h)

  edge_from : (start : ℕ) (before : Option ℕ) (u v : List Segment) (t : ℕ) → AreLong u
      → end_of start u ≤ t → HasEdge P Q start before (u ++ v) t
      → HasEdge P Q (end_of start u) (last_of before u) v t
  edge_from start before [] v t long late h = h
  edge_from start before (s ∷ u) v t long late h =
      ⊎_elim
      (λ here.
      let at = here.0 in
      let one = long.0 in
      absurd (omega (arith, at, one, late, end_of-le (start + s.len) u)))
      (λ later. edge_from (start + s.len) (Some s.val) u v t long.1 late later)
      h

module _ (number : ℕ) where
  event_behind : (start : ℕ) (u v : List Segment) (last t : ℕ)
      → HasEvent number (end_of start u) v last t → HasEvent number start (u ++ v) last t
  event_behind start [] v last t h = h
  event_behind start (s ∷ u) v last t h = inr (event_behind (start + s.len) u v last t h)

  event_from : (start : ℕ) (u v : List Segment) (last t : ℕ) → AreLong u → end_of start u ≤ t
      → HasEvent number start (u ++ v) last t → HasEvent number (end_of start u) v last t
  event_from start [] v last t long late h = h
  event_from start (s ∷ u) v last t long late h =
      ⊎_elim
      (λ here.
      let at = here.0 in
      let one = long.0 in
      absurd (omega (arith, at, one, late, end_of-le (start + s.len) u)))
      (λ later. event_from (start + s.len) u v last t long.1 late later)
      h

module _ (start : ℕ) (before : Option ℕ) (u : List Segment) (next : Timeline) where
  begins_before : (a n : ℕ) → end_of start u * n ≤ a → start * n ≤ a
  begins_before a n late = omega (arith, late, mul-le-mul_right n (end_of-le start u))

  ends_same : (b n : ℕ) → b ≤ end_of (end_of start u) next.segments * n
      → b ≤ end_of start (u ++ next.segments) * n
  ends_same b n le = rw (end_of-append start u next.segments) le

  ends_back : (b n : ℕ) → b ≤ end_of start (u ++ next.segments) * n
      → b ≤ end_of (end_of start u) next.segments * n
  ends_back b n le = rw (sym (end_of-append start u next.segments)) le

  edge_implies_behind : (P Q : ℕ → Type 0)
      → Implies (EdgeMatches P Q (rest_of (end_of start u) (last_of before u) next))
      (EdgeMatches P Q (rest_of start before (prefixed u next)))
  edge_implies_behind P Q =
      Implies-Instant (HasEdge P Q (end_of start u) (last_of before u) next.segments)
      (HasEdge P Q start before (u ++ next.segments))
      (edge_behind P Q start before u next.segments)

  -- a match of an atom over the back is one over the whole
  pub Implies-behind : (x : Atom)
      → Implies (AtomMatches (rest_of (end_of start u) (last_of before u) next) x)
      (AtomMatches (rest_of start before (prefixed u next)) x)
  Implies-behind empty = search (rules, begins_before, ends_same)
  Implies-behind (literal s) = search (rules, begins_before, ends_same, between_behind)
  Implies-behind (rise s) = edge_implies_behind (λ w. ¬ HoldsOn s w) (HoldsOn s)
  Implies-behind (fall s) = edge_implies_behind (HoldsOn s) (λ w. ¬ HoldsOn s w)
  Implies-behind (event i) =
      Implies-Instant (HasEvent i (end_of start u) next.segments next.last)
      (HasEvent i start (u ++ next.segments) next.last)
      (event_behind i start u next.segments next.last)

  module _ (long : AreLong u) where
    edge_implies_from : (P Q : ℕ → Type 0)
        → ImpliesFrom (end_of start u) (EdgeMatches P Q (rest_of start before (prefixed u next)))
        (EdgeMatches P Q (rest_of (end_of start u) (last_of before u) next))
    edge_implies_from P Q =
        ImpliesFrom-Instant (HasEdge P Q start before (u ++ next.segments))
        (HasEdge P Q (end_of start u) (last_of before u) next.segments) (end_of start u)
        (λ t. edge_from P Q start before u next.segments t long)

    -- and one over the whole that begins at the cut or later is one over the back
    pub ImpliesFrom-late : (x : Atom)
        → ImpliesFrom (end_of start u) (AtomMatches (rest_of start before (prefixed u next)) x)
        (AtomMatches (rest_of (end_of start u) (last_of before u) next) x)
    ImpliesFrom-late empty = record {
      at = λ a b n some late h. record {
        begin = late;
        same = h.same;
        end = ends_back b n h.end;
      };
    }
    ImpliesFrom-late (literal s) = record {
      at = λ a b n some late h. record {
        begin = late;
        some_time = h.some_time;
        end = ends_back b n h.end;
        throughout = between_rest (HoldsOn s) a b n start u next.segments h.throughout;
      };
    }
    ImpliesFrom-late (rise s) = edge_implies_from (λ w. ¬ HoldsOn s w) (HoldsOn s)
    ImpliesFrom-late (fall s) = edge_implies_from (HoldsOn s) (λ w. ¬ HoldsOn s w)
    ImpliesFrom-late (event i) =
        ImpliesFrom-Instant (HasEvent i start (u ++ next.segments) next.last)
        (HasEvent i (end_of start u) next.segments next.last) (end_of start u)
        (λ t. event_from i start u next.segments next.last t long)

-- the moments that cross are the cut itself
pub crossing_empty : (start : ℕ) (before : Option ℕ) (u : List Segment) (next : Timeline)
    (a b n : ℕ)
    → Crossing (end_of start u) (EmptyMatches (rest_of start before (prefixed u next))) a b n
    ↔ IsMoment (end_of start u) a b n
crossing_empty start before u next a b n =
    search (rules, mul-le-mul_right, end_of-le, ends_same, end_of)

-- the instants that cross are those of the back at the cut
module _ (cut : ℕ) (M N : ℕ → Type 0) where
  crossing_instant : Implies (InstantMatches N) (InstantMatches M)
      → ImpliesFrom cut (InstantMatches M) (InstantMatches N) → (a b n : ℕ) → 0 < n
      → Crossing cut (InstantMatches M) a b n ↔ Both (IsMoment cut) (InstantMatches N) a b n
  crossing_instant behind from a b n some = search rules

pub crossing_edge : (P Q : ℕ → Type 0) (start : ℕ) (before : Option ℕ) (u : List Segment)
    (next : Timeline) → AreLong u → (a b n : ℕ) → 0 < n
    → Crossing (end_of start u) (EdgeMatches P Q (rest_of start before (prefixed u next))) a b n
    ↔ Both (IsMoment (end_of start u))
    (EdgeMatches P Q (rest_of (end_of start u) (last_of before u) next)) a b n
crossing_edge P Q start before u next long =
    crossing_instant (end_of start u) (HasEdge P Q start before (u ++ next.segments))
    (HasEdge P Q (end_of start u) (last_of before u) next.segments)
    (edge_implies_behind start before u next P Q) (edge_implies_from start before u next long P Q)

pub crossing_event : (number start : ℕ) (before : Option ℕ) (u : List Segment) (next : Timeline)
    → AreLong u → (a b n : ℕ) → 0 < n
    → Crossing (end_of start u) (AtomMatches (rest_of start before (prefixed u next))
    (event number)) a b n
    ↔ Both (IsMoment (end_of start u))
    (AtomMatches (rest_of (end_of start u) (last_of before u) next) (event number)) a b n
crossing_event number start before u next long =
    crossing_instant (end_of start u) (HasEvent number start (u ++ next.segments) next.last)
    (HasEvent number (end_of start u) next.segments next.last)
    (Implies-behind start before u next (event number))
    (ImpliesFrom-late start before u next long (event number))

-- A literal that crosses is one over the front up to the cut, and one over the back from the cut
-- on, each of which may be no time at all.
module _ (P : ℕ → Type 0) (a b n : ℕ) where
  -- what holds between a/n and the cut, holds between a/n and any later time where segments are
  -- long
  between_until : (cut start : ℕ) (u : List Segment) → 0 < n → AreLong u → end_of start u ≤ cut
      → (a < cut * n → HoldsBetween P start u a (cut * n) n) → HoldsBetween P start u a b n
  between_until cut start [] some long within h = tt
  between_until cut start (s ∷ u) some long within h =
      let le = end_of-le (start + s.len) u in
      let one = long.0 in
      let more : start < cut = omega (arith, le, one, within) in
      let sooner : start * n < cut * n = mul-lt-mul_of_pos_right more some in
      let next : (start + s.len) * n ≤ cut * n = mul-le-mul_right n (omega (arith, le, within)) in (
        λ _ inside. (h (omega (arith, inside, next))).0 sooner inside,
        between_until cut (start + s.len) u some long.1 within (λ early. (h early).1),
      )

  between_from : (cut start : ℕ) (v : List Segment) → 0 < n → AreLong v → a ≤ cut * n
      → cut ≤ start → (cut * n < b → HoldsBetween P start v (cut * n) b n)
      → HoldsBetween P start v a b n
  between_from cut start [] some long early late h = tt
  between_from cut start (s ∷ v) some long early late h =
      let one = long.0 in
      let more : cut < start + s.len = omega (arith, one, late) in
      let later : cut * n < (start + s.len) * n = mul-lt-mul_of_pos_right more some in
      let from : cut * n ≤ start * n = mul-le-mul_right n late in (
        λ begins _. (h (omega (arith, begins, from))).0 begins later,
        between_from cut (start + s.len) v some long.1 early (omega (arith, late))
            (λ some_time. (h some_time).1),
      )

  between_both : (start : ℕ) (u v : List Segment) → HoldsBetween P start u a b n
      → HoldsBetween P (end_of start u) v a b n → HoldsBetween P start (u ++ v) a b n
  between_both start [] v h g = g
  between_both start (s ∷ u) v h g = (h.0, between_both (start + s.len) u v h.1 g)

  between_sooner : (start c : ℕ) (u : List Segment) → c ≤ b → HoldsBetween P start u a b n
      → HoldsBetween P start u a c n
  between_sooner start c [] le h = tt
  between_sooner start c (s ∷ u) le h = (
    λ begins ends. h.0 (omega (arith, begins, le)) ends,
    between_sooner (start + s.len) c u le h.1,
  )

  between_later : (start c : ℕ) (u : List Segment) → a ≤ c → HoldsBetween P start u a b n
      → HoldsBetween P start u c b n
  between_later start c [] le h = tt
  between_later start c (s ∷ u) le h = (
    λ begins ends. h.0 begins (omega (arith, ends, le)),
    between_later (start + s.len) c u le h.1,
  )

module _ (P : ℕ → Type 0) (start : ℕ) (before : Option ℕ) (u : List Segment) (next : Timeline)
    (long : AreLong u) (long' : AreLong next.segments) where
  Until : Pairs
  Until = Either (LiteralMatches P start u) (IsMoment (end_of start u))

  From : Pairs
  From = Either (LiteralMatches P (end_of start u) next.segments) (IsMoment (end_of start u))

  until_cut : (a b n : ℕ) → Crossing (end_of start u) (LiteralMatches P start (u ++ next.segments)) a b n
      → Until a (end_of start u * n) n
  unfolding Until
  until_cut a b n h = search (rules, end_of, between_sooner, between_cut, cases_lt, h.begin)

  from_cut : (a b n : ℕ) → Crossing (end_of start u) (LiteralMatches P start (u ++ next.segments)) a b n
      → From (end_of start u * n) b n
  unfolding From
  from_cut a b n h =
      let cut = end_of start u * n in
      ⊎_elim
      (λ later. inl (record {
        begin = omega arith;
        some_time = later;
        end = ends_back start before u next b n h.related.end;
        throughout = between_later P a b n (end_of start u) cut next.segments
            h.begin
            (between_rest P a b n start u next.segments h.related.throughout);
      }))
      (λ over. let end = h.end in inr (record {
        begin = refl;
        end = omega (arith, end, over);
      }))
      (cases_lt cut b)

  joined_literal : (a b n : ℕ) → 0 < n → a < b → Until a (end_of start u * n) n
      → From (end_of start u * n) b n
      → Crossing (end_of start u) (LiteralMatches P start (u ++ next.segments)) a b n
  unfolding Until From
  joined_literal a b n some passes left right =
      let cut = end_of start u * n in
      let first : start * n ≤ cut = mul-le-mul_right n (end_of-le start u) in
      let last : cut ≤ end_of (end_of start u) next.segments * n =
      mul-le-mul_right n (end_of-le (end_of start u) next.segments) in
      let early : a ≤ cut =
      ⊎_elim (λ lit. let lt = lit.some_time in omega (arith, lt))
      (λ moment. let at = moment.begin in omega (arith, at)) left in
      let late : cut ≤ b =
      ⊎_elim (λ lit. let lt = lit.some_time in omega (arith, lt))
      (λ moment. let at = moment.end in omega (arith, at)) right in
      record {
        related = record {
          begin = ⊎_elim (λ lit. lit.begin)
              (λ moment. let at = moment.begin in omega (arith, at, first)) left;
          some_time = passes;
          end = ends_same start before u next b n
              (⊎_elim (λ lit. lit.end)
              (λ moment. let at = moment.end in omega (arith, at, last)) right);
          throughout = between_both P a b n start u next.segments
              (between_until P a b n (end_of start u) start u some long (omega arith)
              (λ lt. ⊎_elim (λ lit. lit.throughout)
              (λ moment. let at = moment.begin in absurd (omega (arith, at, lt))) left))
              (between_from P a b n (end_of start u) (end_of start u) next.segments some long' early
              (omega arith)
              (λ lt. ⊎_elim (λ lit. lit.throughout)
              (λ moment. let at = moment.end in absurd (omega (arith, at, lt))) right));
        };
        begin = early;
        end = late;
      }

  pub crossing_literal : (a b n : ℕ) → 0 < n
      → Crossing (end_of start u) (LiteralMatches P start (u ++ next.segments)) a b n
      ↔ Passing (JoinedAt (end_of start u)
      (Either (LiteralMatches P start u) (IsMoment (end_of start u)))
      (Either (LiteralMatches P (end_of start u) next.segments) (IsMoment (end_of start u)))) a b n
  unfolding Until From
  crossing_literal a b n some = (
    λ h. record {
      related = record { left = until_cut a b n h; right = from_cut a b n h };
      some_time = h.related.some_time;
    },
    λ h. joined_literal a b n some h.some_time h.related.left h.related.right,
  )
