-- What more segments behind a rest, and events at its end, change for its atoms: nothing before the
-- end.
use Rattle.std.proofs.Common.{ℕ, ◌+◌, ◌*◌, ◌<◌, ◌≤◌, List, [], ◌∷◌, ◌++◌, Option, Some, inl, inr, ⊎_elim, arith, rules}
use Rattle.std.proofs.Math.Nat.{mul-le-mul_right}
use Rattle.tre_pairs.proofs.Laws.{Implies, ImpliesBefore}
use Rattle.tre_state.specs.StateTree.{HoldsOn}
use Rattle.tre_trace.specs.declared.segment.Segment.{Segment}
use Rattle.tre_trace.specs.Literal.{HoldsBetween}
use Rattle.tre_trace.specs.Trace.{Timeline, end_of, quiet}
use Rattle.tre_trace.proofs.Segments.{end_of-append}
use Rattle.tre_syntax.specs.PatternTree.{Atom, empty, literal, rise, fall, event}
use Rattle.tre_syntax.specs.Rest.{rest_of, prefixed, HasEdge, HasEvent, EdgeMatches, AtomMatches}
use Rattle.tre_syntax.proofs.Atoms.{end_of-le, HasEdge-begin, HasEvent-begin}
use Rattle.tre_syntax.proofs.Instants.{Implies-Instant, ImpliesBefore-Instant}

-- more segments end no earlier
pub end_of-grows : (start : ℕ) (u v : List Segment) → end_of start u ≤ end_of start (u ++ v)
end_of-grows start u v = omega (arith, end_of-append start u v, end_of-le (end_of start u) v)

module _ (P : ℕ → Type 0) (a b n : ℕ) where
  -- what begins after b/n says nothing of what is before
  pub between_after : (start : ℕ) (v : List Segment) → b ≤ start * n → HoldsBetween P start v a b n
  between_after start [] h = tt
  between_after start (s ∷ rest) h =
      let le : start ≤ start + s.len = omega arith in
      let later : b ≤ (start + s.len) * n = omega (arith, h, mul-le-mul_right n le) in
      (λ begins ends. absurd (omega (arith, begins, h)), between_after (start + s.len) rest later)

  between_grows : (start : ℕ) (u v : List Segment) → b ≤ end_of start u * n
      → HoldsBetween P start u a b n → HoldsBetween P start (u ++ v) a b n
  between_grows start [] v le h = between_after start v le
  between_grows start (s ∷ u) v le h = (h.0, between_grows (start + s.len) u v le h.1)

  pub between_cut : (start : ℕ) (u v : List Segment) → HoldsBetween P start (u ++ v) a b n
      → HoldsBetween P start u a b n
  between_cut start [] v h = tt
  between_cut start (s ∷ u) v h = (h.0, between_cut (start + s.len) u v h.1)

module _ (P Q : ℕ → Type 0) where
  edge_grows : (start : ℕ) (before : Option ℕ) (u v : List Segment) (t : ℕ)
      → HasEdge P Q start before u t → HasEdge P Q start before (u ++ v) t
  edge_grows start before [] v t h = absurd h
  edge_grows start before (s ∷ u) v t h =
      ⊎_elim (λ here. inl here) (λ later. inr (edge_grows (start + s.len) (Some s.val) u v t later))
      h

  edge_cut : (start : ℕ) (before : Option ℕ) (u v : List Segment) (t : ℕ) → t < end_of start u
      → HasEdge P Q start before (u ++ v) t → HasEdge P Q start before u t
  edge_cut start before [] v t lt h = search (rules, HasEdge-begin)
  edge_cut start before (s ∷ u) v t lt h =
      ⊎_elim (λ here. inl here)
      (λ later. inr (edge_cut (start + s.len) (Some s.val) u v t lt later)) h

module _ (number : ℕ) where
  event_grows : (start : ℕ) (u v : List Segment) (last t : ℕ) → HasEvent number start u 0 t
      → HasEvent number start (u ++ v) last t
  event_grows start [] v last t h = search rules
  event_grows start (s ∷ u) v last t h =
      ⊎_elim (λ here. inl here) (λ later. inr (event_grows (start + s.len) u v last t later)) h

  event_cut : (start : ℕ) (u v : List Segment) (last t : ℕ) → t < end_of start u
      → HasEvent number start (u ++ v) last t → HasEvent number start u 0 t
  event_cut start [] v last t lt h = search (rules, HasEvent-begin)
  event_cut start (s ∷ u) v last t lt h =
      ⊎_elim (λ here. inl here) (λ later. inr (event_cut (start + s.len) u v last t lt later)) h

module _ (start : ℕ) (before : Option ℕ) (u : List Segment) (next : Timeline) where
  edge_implies : (P Q : ℕ → Type 0)
      → Implies (EdgeMatches P Q (rest_of start before (quiet u)))
      (EdgeMatches P Q (rest_of start before (prefixed u next)))
  edge_implies P Q = search (rules, Implies-Instant, edge_grows)

  grown_end : (b n : ℕ) → b ≤ end_of start u * n → b ≤ end_of start (u ++ next.segments) * n
  grown_end b n le = omega (arith, le, mul-le-mul_right n (end_of-grows start u next.segments))

  -- a match of an atom stays one
  pub Implies-grown : (x : Atom)
      → Implies (AtomMatches (rest_of start before (quiet u)) x)
      (AtomMatches (rest_of start before (prefixed u next)) x)
  Implies-grown empty = search (rules, grown_end)
  Implies-grown (literal s) = search (rules, grown_end, between_grows)
  Implies-grown (rise s) = edge_implies (λ w. ¬ HoldsOn s w) (HoldsOn s)
  Implies-grown (fall s) = edge_implies (HoldsOn s) (λ w. ¬ HoldsOn s w)
  Implies-grown (event i) = search (rules, Implies-Instant, event_grows)

  edge_implies_before : (P Q : ℕ → Type 0)
      → ImpliesBefore (end_of start u) (EdgeMatches P Q (rest_of start before (prefixed u next)))
      (EdgeMatches P Q (rest_of start before (quiet u)))
  edge_implies_before P Q =
      ImpliesBefore-Instant (HasEdge P Q start before (u ++ next.segments))
      (HasEdge P Q start before u) (end_of start u) (edge_cut P Q start before u next.segments)

  cut_end : (b n : ℕ) → b < end_of start u * n → b ≤ end_of start u * n
  cut_end b n lt = omega arith

  -- and one that ends before the end was one before
  pub ImpliesBefore-cut : (x : Atom)
      → ImpliesBefore (end_of start u) (AtomMatches (rest_of start before (prefixed u next)) x)
      (AtomMatches (rest_of start before (quiet u)) x)
  ImpliesBefore-cut empty = search rules
  ImpliesBefore-cut (literal s) = search (rules, cut_end, between_cut)
  ImpliesBefore-cut (rise s) = edge_implies_before (λ w. ¬ HoldsOn s w) (HoldsOn s)
  ImpliesBefore-cut (fall s) = edge_implies_before (HoldsOn s) (λ w. ¬ HoldsOn s w)
  ImpliesBefore-cut (event i) =
      ImpliesBefore-Instant (HasEvent i start (u ++ next.segments) next.last)
      (HasEvent i start u 0) (end_of start u) (event_cut i start u next.segments next.last)
