-- The bits of lists of words, and the valuations of lists of segments.
use Rattle.std.proofs.Common.{◌≡◌, ◌≢◌, ℕ, zero, suc, ◌*◌, ◌/◌, ◌%◌, ◌^◌, ◌≤◌, ◌<◌, inl, inr, List, [], ◌∷◌, ◌++◌, length, set, replicate, get_or, refl, ap, ◌∙◌, arith, w64, bit_or}
use Rattle.std.proofs.lemmas.Bool.{cases_eq}
use Rattle.std.proofs.lemmas.List.{get_or-set_same, get_or-set_other, get_or_past}
use Rattle.std.proofs.lemmas.Nat.Bits.{bit_at-zero, bit_at_set_same, bit_at_set_other}
use Rattle.std.specs.Int.{bit_at}
use Rattle.tre_trace.specs.declared.segment.Segment.{Segment}
use Rattle.tre_trace.specs.Planes.{bit_in, valuation_at}

zeros : (m k : ℕ) → get_or (replicate {A = ℕ} m 0) k 0 ≡ zero
zeros zero k = refl
zeros (suc m) zero = refl
zeros (suc m) (suc k) = zeros m k

-- a place past the last word has the bit 0
pub bit_in-past : (words : List ℕ) (place : ℕ) → length words * 64 ≤ place → bit_in words place ≡ 0
bit_in-past words place past =
    ap (λ word. bit_at word (place % 64)) (get_or_past words (place / 64) 0 (omega arith))
    ∙ bit_at-zero (place % 64)

-- the words with the bit of a place set
abbrev pub with_bit : List ℕ → ℕ → List ℕ
with_bit words place =
    set words (place / 64) (bit_or (get_or words (place / 64) 0) (1 * 2 ^ (place % 64) % 2 ^ 64))

module _ (words : List ℕ) (place : ℕ) (within : place / 64 < length words) where
  pub bit_in-set : bit_in (with_bit words place) place ≡ 1
  bit_in-set =
      let small : place % 64 < 64 = omega arith in
      ap (λ word. bit_at word (place % 64)) (get_or-set_same words (place / 64) _ 0 within)
      ∙ bit_at_set_same w64 (get_or words (place / 64) 0) (place % 64) small

  pub bit_in-set_other : (other : ℕ) → other ≢ place
      → bit_in (with_bit words place) other ≡ bit_in words other
  bit_in-set_other other apart =
      let small : place % 64 < 64 = omega arith in
      elim (cases_eq (other / 64) (place / 64)) [
        | inl here ↦
            let differs : other % 64 ≢ place % 64 = omega arith in
            rw here (ap (λ word. bit_at word (other % 64))
            (get_or-set_same words (place / 64) _ 0 within)
            ∙ bit_at_set_other w64 (get_or words (place / 64) 0) (place % 64) small (other % 64)
            differs)
        | inr elsewhere ↦
            ap (λ word. bit_at word (other % 64))
            (get_or-set_other words (place / 64) (other / 64) _ 0 elsewhere)
      ]

-- the valuation at a place, with one more segment
pub valuation_at-before : (segments : List Segment) (segment : Segment) (place : ℕ)
    → place ≢ length segments
    → valuation_at (segments ++ segment ∷ []) place ≡ valuation_at segments place
valuation_at-before [] segment zero apart = absurd (apart refl)
valuation_at-before [] segment (suc place) apart = refl
valuation_at-before (first ∷ rest) segment zero apart = refl
valuation_at-before (first ∷ rest) segment (suc place) apart =
    valuation_at-before rest segment place (λ same. apart (ap suc same))

pub valuation_at-last : (segments : List Segment) (segment : Segment)
    → valuation_at (segments ++ segment ∷ []) (length segments) ≡ segment.val
valuation_at-last [] segment = refl
valuation_at-last (first ∷ rest) segment = valuation_at-last rest segment

pub valuation_at-past : (segments : List Segment) (place : ℕ) → length segments ≤ place
    → valuation_at segments place ≡ 0
valuation_at-past [] place past = refl
valuation_at-past (first ∷ rest) zero past = absurd (omega arith)
valuation_at-past (first ∷ rest) (suc place) past = valuation_at-past rest place (omega arith)
