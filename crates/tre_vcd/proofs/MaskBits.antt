-- Masks of names, bit by bit.
use Rattle.std.proofs.Common.{◌≡◌, ℕ, zero, suc, ◌+◌, ◌*◌, ◌/◌, ◌%◌, ◌^◌, Bool, true, false, List, [], ◌∷◌, Option, refl, sym, ap, ◌∙◌, arith, if◌then◌else◌, rules}
use Rattle.std.specs.Int.{bit_at}
use Rattle.std.proofs.Math.Nat.{pow-suc}
use Rattle.std.proofs.lemmas.Nat.Bits.{bit_at-zero, bit_at_lowest, bit_at-suc}
use Rattle.std.specs.Option.{option_map_or}
use Rattle.tre_vcd.specs.Kept.{mask_from}

-- whether there is an identifier, and it passes the test
abbrev pub passes : (List ℕ → Bool) → Option (List ℕ) → Bool
passes test identifier = option_map_or test identifier false

-- whether the name at the place has an identifier that passes the test
abbrev pub passes_at : (List ℕ → Option (List ℕ)) → (List ℕ → Bool) → List (List ℕ) → ℕ → Bool
passes_at identified test [] i = false
passes_at identified test (name ∷ names) zero = passes test (identified name)
passes_at identified test (name ∷ names) (suc i) = passes_at identified test names i

twice-bit : (value : Bool) (i : ℕ) → (if value then 2 ^ suc i else 0)
    ≡ (if value then 2 ^ i else 0) * 2
twice-bit true i = pow-suc 2 i
twice-bit false i = refl

lowest : (value : Bool) (rest : ℕ) → ((if value then 1 else 0) + rest * 2) % 2
    ≡ (if value then 1 else 0)
lowest true rest = omega arith
lowest false rest = omega arith

others : (value : Bool) (rest : ℕ) → ((if value then 1 else 0) + rest * 2) / 2 ≡ rest
others true rest = omega arith
others false rest = omega arith

module _ (identified : List ℕ → Option (List ℕ)) (test : List ℕ → Bool) where
  twice : (names : List (List ℕ)) (i : ℕ) → mask_from identified test (suc i) names
      ≡ mask_from identified test i names * 2
  twice [] i = refl
  twice (name ∷ names) i =
      let one : i + 1 ≡ suc i = omega arith in
      let two : suc i + 1 ≡ suc (suc i) = omega arith in
      let bit = twice-bit (passes test (identified name)) i in
      let rest : mask_from identified test (suc i + 1) names
      ≡ mask_from identified test (i + 1) names * 2 =
      ap (λ n. mask_from identified test n names) two ∙ twice names (suc i)
      ∙ ap (λ n. mask_from identified test n names * 2) (sym one) in
      omega (arith, bit, rest)

  -- the first bit and twice the others
  pub split-bits : (name : List ℕ) (names : List (List ℕ))
      → mask_from identified test 0 (name ∷ names)
      ≡ (if passes test (identified name) then 1 else 0) + mask_from identified test 0 names * 2
  split-bits name names = ap (λ n. (if passes test (identified name) then 1 else 0) + n)
      (twice names 0)

  pub bit_in : (names : List (List ℕ)) (i : ℕ) → bit_at (mask_from identified test 0 names) i
      ≡ (if passes_at identified test names i then 1 else 0)
  bit_in [] i = bit_at-zero i
  bit_in (name ∷ names) zero = search (rules, bit_at_lowest, mask_from, split-bits, lowest)
  bit_in (name ∷ names) (suc i) =
      bit_at-suc (mask_from identified test 0 (name ∷ names)) i
      ∙ ap (λ n. bit_at (n / 2) i) (split-bits name names)
      ∙ ap (λ n. bit_at n i) (others (passes test (identified name))
      (mask_from identified test 0 names))
      ∙ bit_in names i
