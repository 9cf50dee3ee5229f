-- The search for the next bit of a word.
use Rattle.std.proofs.Common.{◌≡◌, ◌≢◌, ℕ, ◌+◌, ◌*◌, ◌-◌, ◌/◌, ◌%◌, ◌^◌, ◌≤◌, ◌<◌, ◌↔◌, inl, inr, Bool, List, get_or, sym, ap, subst, ◌∙◌, arith, w64}
use Rattle.std.proofs.Math.Nat.{div-div-eq-div-mul, div-le_self}
use Rattle.std.proofs.lemmas.Bool.{cases_lt}
use Rattle.std.proofs.lemmas.Nat.{pow-add}
use Rattle.std.proofs.lemmas.Nat.Bits.{bit_at-zero, bit_at_above, bit_at-trailing_zeros}
use Rattle.std.specs.Int.{bit_at, trailing_zeros}
use Rattle.tre_trace.specs.Planes.{bit_in}
use Rattle.tre_edges.specs.NextPlace.{bit_for}

bit_shift : (n s i : ℕ) → bit_at (n / 2 ^ s) i ≡ bit_at n (s + i)
bit_shift n s i =
    ap (λ q. q % 2) (div-div-eq-div-mul n (2 ^ s) (2 ^ i) ∙ ap (λ p. n / p) (sym (pow-add 2 s i)))

-- The word of the place `at` has been turned to `sought`, whose bits are 1 where those of the word
-- say the truth.
module _ (words : List ℕ) (truth : Bool) (at sought : ℕ)
    (says : (i : ℕ) → i < 64
    → (bit_at sought i ≡ 1) ↔ (bit_at (get_or words (at / 64) 0) i ≡ bit_for truth)) where
  abbrev rest : ℕ
  rest = sought / 2 ^ (at % 64)

  place_bit : (k : ℕ) → at % 64 + k < 64
      → (bit_at rest k ≡ 1) ↔ (bit_in words (at + k) ≡ bit_for truth)
  place_bit k small =
      let word : (at + k) / 64 ≡ at / 64 = omega (arith, small) in
      let bit : (at + k) % 64 ≡ at % 64 + k = omega (arith, small) in
      rw (word, bit, bit_shift sought (at % 64) k) (says (at % 64 + k) small)

  -- no bit of the word is left
  pub none_here : rest ≡ 0 → (other : ℕ) → at ≤ other → other < (at / 64 + 1) * 64
      → bit_in words other ≢ bit_for truth
  none_here none other late early is =
      let back : at + (other - at) ≡ other = omega (arith, late) in
      let one = (place_bit (other - at) (omega (arith, late, early))).1
      (subst (λ place. bit_in words place ≡ bit_for truth) (sym back) is) in
      omega (arith, one, ap (λ n. bit_at n (other - at)) none, bit_at-zero (other - at))

  module _ (some : rest ≢ 0) (fits : sought < 2 ^ 64) where
    abbrev pub zeros : ℕ
    zeros = trailing_zeros w64 rest

    lowest : (zeros < 64) × (bit_at rest zeros ≡ 1) × ((i : ℕ) → i < zeros → bit_at rest i ≡ 0)
    lowest =
        bit_at-trailing_zeros w64 rest (omega (arith, some))
        (omega (arith, fits, div-le_self sought (2 ^ (at % 64))))

    pub in_word : at % 64 + zeros < 64
    in_word =
        elim (cases_lt (at % 64 + zeros) 64) [
          | inl small ↦ small
          | inr late ↦
              absurd (omega (
                arith,
                lowest.1,
                bit_shift sought (at % 64) zeros,
                bit_at_above sought 64 (at % 64 + zeros) fits late,
              ))
        ]

    pub found_here : bit_in words (at + zeros) ≡ bit_for truth
    found_here = (place_bit zeros in_word).0 lowest.1

    pub none_before : (other : ℕ) → at ≤ other → other < at + zeros
        → bit_in words other ≢ bit_for truth
    none_before other late early is =
        let back : at + (other - at) ≡ other = omega (arith, late) in
        let one = (place_bit (other - at) (omega (arith, late, early, in_word))).1
        (subst (λ place. bit_in words place ≡ bit_for truth) (sym back) is) in
        omega (arith, one, lowest.2 (other - at) (omega (arith, late, early)))
