-- The opposite of a bound is met exactly where the bound isn't.
use Rattle.std.proofs.Common.{◌≡◌, ℕ, ◌-◌, ◌⊎◌, arith, ℤ, pos, neg_ℤ, ◌+ℤ◌, ◌-ℤ◌, ◌*ℤ◌, rules}
use Rattle.std.proofs.lemmas.Int.{ints, by_lt_z}
use Rattle.tre_zone.specs.Bound.{value_of, weakness_of, Meets}
use Rattle.tre_zone.proofs.Bounds.{Splits, split, split-unique}

split-opposite : (key : ℤ) → Splits (pos 1 -ℤ key) (neg_ℤ (value_of key)) (1 - weakness_of key)
split-opposite key = let s = split key in
    record { whole = omega (arith, ints, s.small); small = omega arith }

value-opposite : (key : ℤ) → value_of (pos 1 -ℤ key) ≡ neg_ℤ (value_of key)
value-opposite key = search (rules, split-unique, value_of, weakness_of, split-opposite)

weakness-opposite : (key : ℤ) → weakness_of (pos 1 -ℤ key) ≡ 1 - weakness_of key
weakness-opposite key =
    (split-unique (pos 1 -ℤ key) (neg_ℤ (value_of _)) (1 - weakness_of _) (split-opposite _)).1

times_neg : (c : ℤ) (n : ℕ) → (neg_ℤ c *ℤ pos n) +ℤ (c *ℤ pos n) ≡ pos 0
times_neg c n = search rules

pub Meets-opposite : (key : ℤ) (p q n : ℕ) → (Meets key p q n → ⊥) → Meets (pos 1 -ℤ key) q p n
Meets-opposite key p q n not =
    search (rules, split, times_neg, value_of, by_lt_z, value-opposite, weakness-opposite)

pub Meets-apart : (key : ℤ) (p q n : ℕ) → Meets key p q n → Meets (pos 1 -ℤ key) q p n → ⊥
Meets-apart key p q n one other =
    let small = (split key).small in
    let times = times_neg (value_of key) n in
    let first = one.met in
    let second = rw (value-opposite key, weakness-opposite key) at other.met in
    omega (arith, ints)

pub Meets-cases : (key : ℤ) (p q n : ℕ) → Meets key p q n ⊎ (Meets key p q n → ⊥)
Meets-cases key p q n = search rules
