-- Where a state holds, by its form.
use Rattle.std.proofs.Common.{◌≡◌, ◌≢◌, ℕ, ◌*◌, ◌/◌, ◌%◌, ◌^◌, ◌<◌, ◌↔◌, inl, inr, ⊎_elim, Bool, true, false, not, List, length, sym, ap, ◌∙◌, arith, bit_and, bit_or, rules}
use Rattle.std.proofs.Math.Nat.{one-mul, zero-mul}
use Rattle.std.proofs.lemmas.Bool.{cases_eq}
use Rattle.std.proofs.lemmas.Nat.{pow_pos}
use Rattle.std.proofs.lemmas.Nat.Bits.{and_pow, bit_at-lt, bit_at-zero}
use Rattle.std.proofs.lemmas.Simd.{length-zip2}
use Rattle.std.specs.Int.{bit_at}
use Rattle.std.specs.Prelude.{slice_index}
use lib.Lanes.{zip2}
use Rattle.tre_state.specs.StateTree.{StateTree, proposition, negation, conjunction, disjunction}
use Rattle.tre_trace.proofs.Bits.{valuation_at-past}
use Rattle.tre_trace.specs.Planes.{IsPlane, bit_in, valuation_at}
use Rattle.tre_trace.specs.declared.segment.Segment.{Segment}
use Rattle.tre_edges.proofs.WordBits.{bit_in-and, bit_in-or}
use Rattle.tre_edges.specs.StateWords.{AreTruthOf}
use Rattle.tre_edges.specs.WordBits.{AreOpposite}
use Rattle.tre_edges.specs.NextPlace.{bit_for}
use Rattle.tre_edges.specs.Truth.{HasTruth}

bit_in-lt : (words : List ℕ) (place : ℕ) → bit_in words place < 2
bit_in-lt words place = bit_at-lt (slice_index words (place / 64)) (place % 64)

bit_set : (n k : ℕ) → (bit_at n k ≡ 1) ↔ (bit_and n (2 ^ k) ≢ 0)
bit_set n k = (
  λ one none.
      let whole : bit_and n (2 ^ k) ≡ 2 ^ k =
      and_pow n k ∙ ap (λ bit. bit * 2 ^ k) one ∙ one-mul (2 ^ k) in
      omega (arith, whole, none, pow_pos k),
  λ some. elim (cases_eq (bit_at n k) 1) [
    | inl one ↦ one
    | inr other ↦
        let zero : bit_at n k ≡ 0 = omega (arith, other, bit_at-lt n k) in
        absurd (some (and_pow n k ∙ ap (λ bit. bit * 2 ^ k) zero ∙ zero-mul (2 ^ k)))
  ],
)

module _ (segments : List Segment) where
  pub of_proposition : (number : ℕ) (words : List ℕ) → IsPlane number segments words
      → AreTruthOf (proposition number) segments words
  of_proposition number words plane = record {
    size = plane.size;
    held = λ place early.
        let set = bit_set (valuation_at segments place) number in
        ((λ one. set.0 (sym (plane.bits place) ∙ one)), (λ some. plane.bits place ∙ set.1 some));
    past = λ place late.
        plane.bits place
        ∙ ap (λ valuation. bit_at valuation number) (valuation_at-past segments place late)
        ∙ none number;
  } where
    none : (k : ℕ) → bit_at 0 k ≡ 0
    none = bit_at-zero

  pub of_opposite : (state : StateTree) (words opposite : List ℕ)
      → AreTruthOf state segments words → AreOpposite (length segments) words opposite
      → AreTruthOf (negation state) segments opposite
  of_opposite state words opposite truth turned = search rules

  module _ (left right : StateTree) (a b : List ℕ) (first : AreTruthOf left segments a)
      (second : AreTruthOf right segments b) where
    same : length a ≡ length b
    same = first.size ∙ sym second.size

    pub of_conjunction : AreTruthOf (conjunction left right) segments (zip2 bit_and a b)
    of_conjunction = record {
      size = length-zip2 bit_and a b same ∙ first.size;
      held = λ place early.
          let one = first.held place early in
          let other = second.held place early in
          let bit = bit_in-and a b same place in
          let small = bit_in-lt a place in
          let small' = bit_in-lt b place in (
            λ both. (
              one.0 (omega (arith, bit, both, small, small')),
              other.0
                  (omega (arith, bit, both, small, small')),
            ),
            λ holds. omega (arith, bit, one.1 holds.0, other.1 holds.1),
          );
      past = λ place late.
          omega (arith, bit_in-and a b same place, first.past place late, second.past place late);
    }

    pub of_disjunction : AreTruthOf (disjunction left right) segments (zip2 bit_or a b)
    of_disjunction = record {
      size = length-zip2 bit_or a b same ∙ first.size;
      held = λ place early.
          let one = first.held place early in
          let other = second.held place early in
          let bit = bit_in-or a b same place in
          let small = bit_in-lt a place in
          let small' = bit_in-lt b place in (
            λ either. elim (cases_eq (bit_in a place) 1) [
              | inl is ↦ inl (one.0 is)
              | inr is_not ↦ inr (other.0 (omega (arith, bit, either, is_not, small, small')))
            ],
            λ holds. ⊎_elim (λ h. omega (arith, bit, one.1 h, small, small'))
                (λ h. omega (arith, bit, other.1 h, small, small')) holds,
          );
      past = λ place late.
          omega (arith, bit_in-or a b same place, first.past place late, second.past place late);
    }

-- what the bit of a segment says
module _ (state : StateTree) (segments : List Segment) (words : List ℕ)
    (truth : AreTruthOf state segments words) (place : ℕ) (within : place < length segments) where
  pub has_truth : (value : Bool) → bit_in words place ≡ bit_for value
      → HasTruth value state (valuation_at segments place)
  has_truth true is = (truth.held place within).0 is
  has_truth false is = λ holds. omega (arith, is, (truth.held place within).1 holds)

  pub has_other : (value : Bool) → bit_in words place ≢ bit_for value
      → HasTruth (not value) state (valuation_at segments place)
  has_other true other = search rules
  has_other false other = search rules

pub truth_apart : (value : Bool) (state : StateTree) (valuation : ℕ)
    → HasTruth value state valuation → HasTruth (not value) state valuation → ⊥
truth_apart true state valuation holds fails = fails holds
truth_apart false state valuation fails holds = fails holds
