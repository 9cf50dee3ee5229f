-- A bound as a value and a weakness, the sum of bounds, and what a difference of times meets.
use Rattle.std.proofs.Common.{◌≡◌, ℕ, ◌+◌, ◌-◌, ◌*◌, ◌≤◌, ◌<◌, min, max, arith, ℤ, pos, negsuc, ◌+ℤ◌, ◌-ℤ◌, ◌*ℤ◌, ◌≤ℤ◌, ◌<ℤ◌, refl, rules}
use Rattle.std.proofs.Common.{◌^◌, ◌↔◌, zero, suc, neg_ℤ, bit_and, bit_or, to_z, of_z, w64, Bool, true, false}
use Rattle.std.proofs.lemmas.Int.{ints}
use Rattle.std.proofs.lemmas.Nat.{and_mask}
use Rattle.std.specs.Int.{w128}
use Rattle.std.specs.Prelude.{IsTrue}
use lib.Dec.{T}
use mir.Val.{SFits}
use lib.Signed.{le_z, lt_z, shr_z}
use Rattle.tre_zone.specs.Bound.{value_of, weakness_of, sum_of, Meets, IsKeyWithin, IsValueWithin}

-- A key is twice its value and its weakness.
pub record Splits (key value : ℤ) (weakness : ℕ) : Type 0 where
  pub whole : key ≡ (pos 2 *ℤ value) +ℤ pos weakness
  pub small : weakness ≤ 1

pub split : (key : ℤ) → Splits key (value_of key) (weakness_of key)
unfolding value_of weakness_of
split (pos key) = record { whole = omega (arith, ints); small = omega arith }
split (negsuc key) = record { whole = omega (arith, ints); small = omega arith }

-- There is one way to split a key.
pub split-unique : (key value : ℤ) (weakness : ℕ) → Splits key value weakness
    → (value_of key ≡ value) × (weakness_of key ≡ weakness)
split-unique key value weakness s =
    let own = split key in (omega (arith, ints), omega (arith, ints))

pub split-sum : (left right : ℤ) → Splits (sum_of left right) (value_of left +ℤ value_of right)
    (min (weakness_of left) (weakness_of right))
unfolding sum_of
split-sum left right =
    let one = split left in
    let two = split right in
    record { whole = omega (arith, ints); small = omega arith }

pub value_of-sum_of : (left right : ℤ) → value_of
    (sum_of left right) ≡ value_of left +ℤ value_of right
value_of-sum_of left right = (split-unique (sum_of left right) (value_of left +ℤ value_of right)
    (min (weakness_of left) (weakness_of right)) (split-sum left right)).0

pub weakness_of-sum_of : (left right : ℤ)
    → weakness_of (sum_of left right) ≡ min (weakness_of left) (weakness_of right)
weakness_of-sum_of left right = (split-unique (sum_of left right) (value_of left +ℤ value_of right)
    (min (weakness_of left) (weakness_of right)) (split-sum left right)).1

-- What it means to meet a bound, read by its kind.
pub Meets-weak : (key c : ℤ) → key ≡ (pos 2 *ℤ c) +ℤ pos 1 → (p q n : ℕ)
    → Meets key p q n ↔ (pos p ≤ℤ (pos q +ℤ (c *ℤ pos n)))
Meets-weak key c e p q n =
    let apart : Splits key c 1 = record { whole = e; small = omega arith } in
    let one = split-unique key c 1 apart in (
      (λ m. let met = rw (one.0, one.1) at m.met in omega (arith, ints)),
      (λ h. record { met = rw (one.0, one.1) (omega (arith, ints)) }),
    )

pub Meets-strict : (key c : ℤ) → key ≡ pos 2 *ℤ c → (p q n : ℕ)
    → Meets key p q n ↔ (pos p <ℤ (pos q +ℤ (c *ℤ pos n)))
Meets-strict key c e p q n =
    let apart : Splits key c 0 = record { whole = omega (arith, ints); small = omega arith } in
    let one = split-unique key c 0 apart in (
      (λ m. let met = rw (one.0, one.1) at m.met in omega (arith, ints)),
      (λ h. record { met = rw (one.0, one.1) (omega (arith, ints)) }),
    )

-- The low bit of a key, as the machine has it, is its weakness.
pub low_bit : (key : ℤ) → SFits w64 key → to_z w64 (bit_and (of_z w64 key) 1) ≡ pos
    (weakness_of key)
unfolding weakness_of
low_bit (pos key) fits = rw (and_mask key 1) (omega (arith, ints))
low_bit (negsuc key) fits =
    let small : key < 2 ^ 63 = omega (arith, ints) in
    rw (and_mask (2 ^ 64 - suc key) 1) (omega (arith, ints))

-- The greater of two weaknesses, as the machine has it.
pub either_bit : (one other : ℕ) → one ≤ 1 → other ≤ 1
    → to_z w64 (bit_or (of_z w64 (pos one)) (of_z w64 (pos other))) ≡ pos (max one other)
either_bit zero zero first second = refl
either_bit zero (suc zero) first second = refl
either_bit (suc zero) zero first second = refl
either_bit (suc zero) (suc zero) first second = refl
either_bit (suc (suc one)) other first second = absurd (omega (arith, first))
either_bit zero (suc (suc other)) first second = absurd (omega (arith, second))
either_bit (suc zero) (suc (suc other)) first second = absurd (omega (arith, second))

-- A key shifted by one place is its value.
pub half : (key : ℤ) → SFits w64 key → to_z w64 (of_z w64 (shr_z key 2)) ≡ value_of key
unfolding value_of
half (pos key) fits = omega (arith, ints)
half (negsuc key) fits = omega (arith, ints)

-- The same at a value above zero and at one below.
down_product : (c n : ℕ) → neg_ℤ (pos c) *ℤ pos n ≡ neg_ℤ (pos (c * n))
down_product zero n = omega (arith, ints)
down_product (suc c) n = refl

pub Meets-at_most : (key : ℤ) (c : ℕ) → key ≡ pos (2 * c + 1) → (p q n : ℕ)
    → Meets key p q n ↔ (p ≤ q + c * n)
Meets-at_most key c e p q n =
    let both = Meets-weak key (pos c) (omega (arith, ints)) p q n in
    ((λ m. let le = both.0 m in omega (arith, ints)), (λ h. both.1 (omega (arith, ints))))

pub Meets-less : (key : ℤ) (c : ℕ) → key ≡ pos (2 * c) → (p q n : ℕ)
    → Meets key p q n ↔ (p < q + c * n)
Meets-less key c e p q n =
    let both = Meets-strict key (pos c) (omega (arith, ints)) p q n in
    ((λ m. let lt = both.0 m in omega (arith, ints)), (λ h. both.1 (omega (arith, ints))))

pub Meets-at_least : (key : ℤ) (c : ℕ) → key ≡ pos 1 -ℤ pos (2 * c) → (p q n : ℕ)
    → Meets key p q n ↔ (p + c * n ≤ q)
Meets-at_least key c e p q n =
    let both = Meets-weak key (neg_ℤ (pos c)) (omega (arith, ints)) p q n in
    let down = down_product c n in (
      (λ m. let le = rw down at (both.0 m) in omega (arith, ints)),
      (λ h. both.1 (rw down (omega (arith, ints)))),
    )

pub Meets-more : (key : ℤ) (c : ℕ) → key ≡ neg_ℤ (pos (2 * c)) → (p q n : ℕ)
    → Meets key p q n ↔ (p + c * n < q)
Meets-more key c e p q n =
    let both = Meets-strict key (neg_ℤ (pos c)) (omega (arith, ints)) p q n in
    let down = down_product c n in (
      (λ m. let lt = rw down at (both.0 m) in omega (arith, ints)),
      (λ h. both.1 (rw down (omega (arith, ints)))),
    )

pub not_weak : (key : ℤ) → (weakness_of key ≡ 1 → ⊥) → weakness_of key ≡ 0
not_weak key not_one = let s = split key in omega (arith, not_one)

is_true : (b : Bool) → T b → IsTrue b
is_true true holds = refl
is_true false holds = absurd holds

-- A number as the machine has it in 128 bits.
abbrev wide : ℤ → ℤ
wide number = to_z w128 (of_z w128 number)

-- The test of a difference by the kind of the bound, where the machine has its three numbers.
pub tested-at_most : (key : ℤ) (p q n : ℕ) {one two most : ℤ} → weakness_of key ≡ 1 → p < 2 ^ 64
    → q < 2 ^ 64 → one ≡ pos p → two ≡ pos q → most ≡ value_of key *ℤ pos n → SFits w128 most
    → IsTrue (le_z (wide (wide one -ℤ wide two)) (wide most)) ↔ Meets key p q n
tested-at_most key p q n {one = one} {two = two} {most = most} weak small low is also whole fits =
    search rules

pub tested-less : (key : ℤ) (p q n : ℕ) {one two most : ℤ} → weakness_of key ≡ 0 → p < 2 ^ 64
    → q < 2 ^ 64 → one ≡ pos p → two ≡ pos q → most ≡ value_of key *ℤ pos n → SFits w128 most
    → IsTrue (lt_z (wide (wide one -ℤ wide two)) (wide most)) ↔ Meets key p q n
tested-less key p q n {one = one} {two = two} {most = most} strict small low is also whole fits =
    search rules

pub value-weak : (key c : ℤ) → key ≡ (pos 2 *ℤ c) +ℤ pos 1 → value_of key ≡ c
value-weak key c e = let s = split key in omega (arith, ints)

pub value-strict : (key c : ℤ) → key ≡ pos 2 *ℤ c → value_of key ≡ c
value-strict key c e = let s = split key in omega (arith, ints)

-- A key of a canonical zone has a value that may be summed.
pub IsValueWithin-key : (limit wide : ℕ) → limit ≤ wide → (key : ℤ) → IsKeyWithin limit key
    → IsValueWithin wide key
IsValueWithin-key limit wide le key h = let s = split key in
    record { low = omega (arith, ints, h.low); high = omega (arith, ints, h.high) }
