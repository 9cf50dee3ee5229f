-- The bits for names, one by one.
use Rattle.std.proofs.Common.{◌≡◌, ℕ, zero, suc, ◌+◌, ◌*◌, ◌/◌, ◌%◌, ◌<◌, ◌≤◌, Bool, true, false, List, [], ◌∷◌, length, get_or, refl, ◌∙◌, arith, if◌then◌else◌, rules}
use Rattle.std.specs.Int.{bit_at}
use Rattle.std.proofs.lemmas.Nat.Bits.{bit_at-zero, bit_at-suc}
use Rattle.tre_trace.specs.Reading.{bits_of}

abbrev pub bit : Bool → ℕ
bit true = 1
bit false = 0

low : (one : Bool) (rest : ℕ) → (bit one + 2 * rest) % 2 ≡ bit one
low true rest = omega arith
low false rest = omega arith

high : (one : Bool) (rest : ℕ) → (bit one + 2 * rest) / 2 ≡ rest
high true rest = omega arith
high false rest = omega arith

pub bit-is : (one : Bool) → bit one ≡ (if one then 1 else 0)
bit-is true = refl
bit-is false = refl

module _ (test : List ℕ → Bool) where
  pub first-bit : (name : List ℕ) (names : List (List ℕ))
      → bits_of test (name ∷ names) ≡ bit (test name) + 2 * bits_of test names
  first-bit name names = search rules

  later-bit : (name : List ℕ) (names : List (List ℕ)) (i : ℕ)
      → bit_at (bits_of test (name ∷ names)) (suc i) ≡ bit_at (bits_of test names) i
  later-bit name names i = search (rules, bit_at-suc, bits_of, first-bit, high)

  -- each bit is its name's
  pub bit-at : (names : List (List ℕ)) (i : ℕ) → i < length names
      → bit_at (bits_of test names) i ≡ bit (test (get_or names i []))
  bit-at [] i within = absurd (omega (arith, within))
  bit-at (name ∷ names) zero within = search rules
  bit-at (name ∷ names) (suc i) within =
      later-bit name names i ∙ bit-at names i (omega (arith, within))

  -- behind them there is none
  pub no-bit : (names : List (List ℕ)) (i : ℕ) → length names ≤ i
      → bit_at (bits_of test names) i ≡ 0
  no-bit [] i past = bit_at-zero i
  no-bit (name ∷ names) zero past = absurd (omega (arith, past))
  no-bit (name ∷ names) (suc i) past =
      later-bit name names i ∙ no-bit names i (omega (arith, past))
