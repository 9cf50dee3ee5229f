-- Bounds along a path of times: what follows of a sum, what a looser bound keeps, and what a bound
-- on nothing means.
use Rattle.std.proofs.Common.{refl, ◌≡◌, ℕ, zero, suc, ◌+◌, ◌*◌, ◌<◌, ◌≤◌, ◌↔◌, ap, arith, ℤ, pos, negsuc, ◌+ℤ◌, ◌*ℤ◌, ◌≤ℤ◌, ◌<ℤ◌, rules}
use Rattle.std.proofs.lemmas.Int.{ints, clamps, by_lt_z}
use Rattle.std.proofs.Math.Nat.{mul-le-mul_right}
use Rattle.std.specs.Int.{int_min}
use borrow.Author.Differences.{up, down, sum_is_lem, le_out}
use Rattle.tre_zone.specs.Bound.{value_of, weakness_of, sum_of, Meets}
use Rattle.tre_zone.proofs.Bounds.{split, value_of-sum_of, weakness_of-sum_of}

pub add_times : (x y : ℤ) (n : ℕ) → (x +ℤ y) *ℤ pos n ≡ (x *ℤ pos n) +ℤ (y *ℤ pos n)
add_times x y n =
    let times : (up (x +ℤ y) + down x + down y) * n ≡ (down (x +ℤ y) + up x + up y) * n =
    ap (λ (t : ℕ). t * n) (sum_is_lem x y) in
    omega (arith, ints)

pub le_times : (x y : ℤ) (n : ℕ) → x ≤ℤ y → (x *ℤ pos n) ≤ℤ (y *ℤ pos n)
le_times x y n le = search (rules, up, down, mul-le-mul_right, le_out)

-- At a denominator of n a value that is greater by one gives n more.
lt_times : (x y : ℤ) (n : ℕ) → x <ℤ y → ((x *ℤ pos n) +ℤ pos n) ≤ℤ (y *ℤ pos n)
lt_times x y n lt =
    let le : (x +ℤ pos 1) ≤ℤ y = omega (arith, ints) in
    let times = le_times (x +ℤ pos 1) y n le in
    let parts = add_times x (pos 1) n in
    omega (arith, ints)

pub Meets-looser : (key other : ℤ) (p q n : ℕ) → 0 < n → key ≤ℤ other → Meets key p q n
    → Meets other p q n
Meets-looser key other p q n some le m =
    let one = split key in
    let two = split other in
    let met = m.met in
    by_lt_z (value_of key) (value_of other)
    (λ lt. let more = lt_times (value_of key) (value_of other) n lt in
    record { met = omega (arith, ints) })
    (λ not_lt.
    let same : value_of key ≡ value_of other = omega (arith, ints) in
    let times = le_times (value_of key) (value_of other) n (omega (arith, ints)) in
    record { met = omega (arith, ints) })

pub Meets-sum : (left right : ℤ) (p q r n : ℕ) → Meets left p q n → Meets right q r n
    → Meets (sum_of left right) p r n
Meets-sum left right p q r n one two =
    let times = add_times (value_of left) (value_of right) n in
    let first = one.met in
    let second = two.met in
    let small = (split left).small in
    let little = (split right).small in
    record {
      met = rw (value_of-sum_of left right, weakness_of-sum_of left right)
          (omega (arith, ints));
    }

nothing : (value : ℤ) (weakness n : ℕ) → weakness ≤ 1 → 0 < n
    → pos 0 <ℤ ((value *ℤ pos n) +ℤ pos weakness) → pos 1 ≤ℤ ((pos 2 *ℤ value) +ℤ pos weakness)
nothing (pos zero) weakness n small some lt = omega (arith, ints)
nothing (pos (suc value)) weakness n small some lt = omega (arith, ints)
nothing (negsuc value) weakness n small some lt = absurd (omega (arith, ints))

-- A bound on the difference of a time and itself is "at most 0" or looser.
pub Meets-loop : (key : ℤ) (p n : ℕ) → 0 < n → Meets key p p n → pos 1 ≤ℤ key
Meets-loop key p n some m =
    let s = split key in
    let met = m.met in
    let least = nothing (value_of key) (weakness_of key) n s.small some (omega (arith, ints)) in
    omega (arith, ints)

pub int_min-case : (P : ℤ → Type 0) (x y : ℤ) → (x ≤ℤ y → P x) → (y ≤ℤ x → P y) → P (int_min x y)
int_min-case P x y left right = search rules

pub int_min-left : (x y : ℤ) → int_min x y ≤ℤ x
int_min-left x y = omega (arith, ints, clamps)

pub int_min-right : (x y : ℤ) → int_min x y ≤ℤ y
int_min-right x y = omega (arith, ints, clamps)

-- The tighter of two bounds is met exactly where both are.
pub Meets-min : (x y : ℤ) (p q n : ℕ) → 0 < n
    → Meets (int_min x y) p q n ↔ (Meets x p q n × Meets y p q n)
Meets-min x y p q n some = search (rules, Meets-looser, int_min-left, int_min-right, int_min-case)

-- An integer that is not negative, as a natural.
pub pos-up : (z : ℤ) → pos 0 ≤ℤ z → z ≡ pos (up z)
pos-up (pos n) h = refl
pos-up (negsuc n) h = absurd (omega (arith, ints))
