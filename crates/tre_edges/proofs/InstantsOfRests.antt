-- Edges and events over segments: what one more segment brings.
use Rattle.std.proofs.Common.{◌≡◌, ℕ, ◌+◌, ◌*◌, ◌↔◌, ◌⊎◌, Bool, true, false, ◌&&◌, IsTrue, Option, Some, List, [], ◌∷◌, IsSomeAnd, refl, sym, ap, ◌∙◌, inl, inr, ⊎_elim, arith}
use Rattle.std.specs.Int.{bit_at}
use Rattle.tre_trace.specs.Trace.{quiet, timeline_of}
use Rattle.tre_trace.specs.declared.segment.Segment.{Segment}
use Rattle.tre_syntax.specs.Rest.{rest_of, InstantMatches, HasEdge, HasEvent, EdgeMatches, EventMatches}
use Rattle.tre_edges.specs.Truth.{IsFoundAt}

-- The instant `start`, where something was found there, and those of another kind.
InstantMatches-next : (M N : ℕ → Type 0) (start : ℕ) (found : Bool)
    → ((t : ℕ) → M t → ((t ≡ start) × IsTrue found) ⊎ N t) → (IsTrue found → M start)
    → ((t : ℕ) → N t → M t) → (a b n : ℕ)
    → InstantMatches M a b n ↔ (IsFoundAt found start a b n ⊎ InstantMatches N a b n)
InstantMatches-next M N start found into one_in more_in a b n = (
  λ h. ⊎_elim
      (λ here. let at = ap (λ t. t * n) here.0 in inl (record {
        is = here.1;
        instant = record {
          starts = omega (arith, h.begin, at);
          same = h.begin ∙ sym h.end;
          ends = omega (arith, h.end, at);
        };
      }))
      (λ later. inr (record { time = h.time; begin = h.begin; end = h.end; there = later }))
      (into h.time h.there),
  λ h. ⊎_elim
      (λ here. record {
        time = start;
        begin = omega (arith, here.instant.starts, here.instant.same, here.instant.ends);
        end = omega (arith, here.instant.starts, here.instant.same, here.instant.ends);
        there = one_in here.is;
      })
      (λ later. record {
        time = later.time;
        begin = later.begin;
        end = later.end;
        there = more_in later.time later.there;
      })
      h,
)

module _ (P Q : ℕ → Type 0) (start : ℕ) (before : Option ℕ) where
  -- The edge at the begin of the next segment, and those of the rest.
  pub EdgeMatches-segment : (segment : Segment) (rest : List Segment) (found : Bool) → IsTrue found
      ↔ (IsSomeAnd before P × Q segment.val) → (a b n : ℕ)
      → EdgeMatches P Q (rest_of start before (quiet (segment ∷ rest))) a b n
      ↔ (IsFoundAt found start a b n
      ⊎ EdgeMatches P Q (rest_of (start + segment.len) (Some segment.val) (quiet rest)) a b n)
  EdgeMatches-segment segment rest found here =
      InstantMatches-next (HasEdge P Q start before (segment ∷ rest))
      (HasEdge P Q (start + segment.len) (Some segment.val) rest) start found
      (λ t h. ⊎_elim (λ edge. inl (edge.0, here.1 (edge.1, edge.2))) (λ later. inr later) h)
      (λ is. let parts = here.0 is in inl (refl, parts.0, parts.1))
      (λ t later. inr later)

  -- No segment, no edge.
  pub EdgeMatches-end : (a b n : ℕ) → EdgeMatches P Q (rest_of start before (quiet [])) a b n → ⊥
  EdgeMatches-end a b n h = h.there

module _ (number last start : ℕ) (before : Option ℕ) where
  -- The event at the begin of the next segment, and those of the rest.
  pub EventMatches-segment : (segment : Segment) (rest : List Segment) (found : Bool)
      → IsTrue found ↔ (bit_at segment.ev number ≡ 1) → (a b n : ℕ)
      → EventMatches number (rest_of start before (timeline_of (segment ∷ rest) last)) a b n
      ↔ (IsFoundAt found start a b n
      ⊎ EventMatches number
      (rest_of (start + segment.len) (Some segment.val) (timeline_of rest last)) a b n)
  EventMatches-segment segment rest found here =
      InstantMatches-next (HasEvent number start (segment ∷ rest) last)
      (HasEvent number (start + segment.len) rest last) start found
      (λ t h. ⊎_elim (λ event. inl (event.0, here.1 event.1)) (λ later. inr later) h)
      (λ is. inl (refl, here.0 is))
      (λ t later. inr later)

  -- Behind the last segment, the event at the end.
  pub EventMatches-end : (found : Bool) → IsTrue found ↔ (bit_at last number ≡ 1) → (a b n : ℕ)
      → EventMatches number (rest_of start before (timeline_of [] last)) a b n
      ↔ IsFoundAt found start a b n
  EventMatches-end found here a b n =
      let law = InstantMatches-next (HasEvent number start [] last) (λ (t : ℕ). ⊥) start found
      (λ t event. inl (event.0, here.1 event.1)) (λ is. (refl, here.0 is)) (λ t none. absurd none)
      a b n in (
        λ h. ⊎_elim (λ event. event) (λ none. absurd none.there) (law.0 h),
        λ h. law.1 (inl h),
      )

-- Both tests say what they test.
pub both_true : {A B : Type 0} → (one other : Bool) → IsTrue one ↔ A → IsTrue other ↔ B
    → IsTrue (one && other) ↔ (A × B)
both_true true other first second = ((λ h. (first.0 refl, second.0 h)), (λ h. second.1 h.1))
both_true false other first second = (
  (λ h. let wrong : false ≡ true = h in absurd cc),
  (λ h. let wrong : false ≡ true = first.1 h.0 in absurd cc),
)
