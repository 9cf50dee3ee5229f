-- What two searches for a bit say: where the next run is, and where the next edge.
use Rattle.std.proofs.Common.{◌≡◌, ℕ, ◌+◌, ◌<◌, ◌↔◌, ◌⊎◌, Bool, true, false, not, IsTrue, IsSomeAnd, List, length, inl, inr, sym, subst, ◌∙◌, arith}
use Rattle.std.proofs.lemmas.Bool.{cases_lt}
use Rattle.std.proofs.lemmas.Bool.Decides.{nat_tests}
use Rattle.std.specs.Prelude.{nat_lt}
use Rattle.tre_state.specs.StateTree.{StateTree, HoldsOn}
use Rattle.tre_trace.specs.declared.segment.Segment.{Segment}
use Rattle.tre_trace.specs.Planes.{bit_in, valuation_at}
use Rattle.tre_zone.specs.Zone.{IsInSpan}
use Rattle.tre_edges.specs.NextPlace.{IsNextPlace, bit_for}
use Rattle.tre_edges.specs.StateWords.{AreTruthOf}
use Rattle.tre_edges.specs.Truth.{HasTruth, IsFoundAt}
use Rattle.tre_edges.proofs.Places.{time_of, time_of-mono}
use Rattle.tre_edges.proofs.StateWords.{has_truth, has_other, truth_apart}
use Rattle.tre_edges.proofs.RunsOfTraces.{FromPlace, next_run}
use Rattle.tre_edges.proofs.EdgesOfTraces.{EdgesFrom, before_at, next_edge, calm_behind}

pub lt_test : (m n : ℕ) → IsTrue (nat_lt m n) ↔ (m < n)
lt_test m n = grind (arith, nat_tests)

bits_apart : (value : Bool) → bit_for value ≡ bit_for (not value) → ⊥
bits_apart true same = omega (arith, same)
bits_apart false same = omega (arith, same)

module _ (state : StateTree) (segments : List Segment) (words : List ℕ)
    (truth : AreTruthOf state segments words) where
  pub run_found : (at begin end : ℕ) → IsNextPlace words true at (length segments) begin
      → IsNextPlace words false begin (length segments) end
      → (a b n : ℕ)
      → FromPlace (HoldsOn state) segments (time_of segments at) at a b n
      ↔ (IsInSpan (time_of segments begin) (time_of segments end) a b n
      ⊎ FromPlace (HoldsOn state) segments (time_of segments (end + 1)) (end + 1) a b n)
  run_found at begin end first last a b n =
      next_run (HoldsOn state) segments a b n at begin end first.late last.late last.within
      (time_of-mono segments begin end last.late)
      (λ k late early.
      has_other state segments words truth k (omega (arith, early, first.within)) true
      (first.between k late early))
      (λ k late early.
      has_other state segments words truth k (omega (arith, early, last.within)) false
      (last.between k late early))
      (λ early. has_truth state segments words truth end early false (last.there early))

  module _ (becomes : Bool) (at other turn : ℕ)
      (first : IsNextPlace words (not becomes) at (length segments) other)
      (last : IsNextPlace words becomes other (length segments) turn) where
    abbrev Is : ℕ → Type 0
    Is = HasTruth becomes state

    abbrev IsOther : ℕ → Type 0
    IsOther = HasTruth (not becomes) state

    apart : (v : ℕ) → IsOther v → Is v → ⊥
    apart v is_other is = truth_apart becomes state v is is_other

    pub edge_found : (found : Bool) → IsTrue found ↔ (turn < length segments)
        → (at < length segments → IsSomeAnd (before_at segments at) IsOther → ⊥)
        → (a b n : ℕ)
        → EdgesFrom IsOther Is segments at a b n
        ↔ (IsFoundAt found (time_of segments turn) a b n
        ⊎ EdgesFrom IsOther Is segments (turn + 1) a b n)
    edge_found found is calm a b n =
        next_edge IsOther Is segments a b n at other turn first.late last.late last.within found is
        apart calm
        (λ k late early.
        twice becomes (valuation_at segments k)
        (has_other state segments words truth k
        (omega (arith, early, last.late, last.within)) (not becomes)
        (first.between k late early)))
        (λ k late early.
        has_other state segments words truth k (omega (arith, early, last.within)) becomes
        (last.between k late early))
        (λ early. (
          moved early,
          has_truth state segments words truth turn early becomes (last.there early),
        )) where
          twice : (value : Bool) (v : ℕ) → HasTruth (not (not value)) state v
              → HasTruth value state v
          twice true v h = h
          twice false v h = h

          moved : turn < length segments → other < turn
          moved early =
              elim (cases_lt other turn) [
                | inl less ↦ less
                | inr stays ↦
                    let same : other ≡ turn = omega (arith, last.late, stays) in
                    absurd (bits_apart becomes (sym (last.there early)
                    ∙ subst (λ place. bit_in words place ≡ bit_for (not becomes)) same
                    (first.there (omega (arith, early, last.late)))))
              ]

    pub calm_then : turn < length segments → IsSomeAnd (before_at segments (turn + 1)) IsOther → ⊥
    calm_then early =
        calm_behind IsOther Is segments 0 0 0 turn apart
        (has_truth state segments words truth turn early becomes (last.there early))
