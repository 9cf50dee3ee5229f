-- The sum of bounds has the laws of a sum, and "at most 0" for its zero.
use Rattle.std.proofs.Common.{◌≡◌, arith, ℤ, pos, ◌≤ℤ◌, rules}
use Rattle.std.proofs.lemmas.Int.{ints}
use Rattle.tre_zone.specs.Bound.{sum_of}
use Rattle.tre_zone.proofs.Bounds.{split, split-sum, value_of-sum_of, weakness_of-sum_of}

pub sum_of-comm : (x y : ℤ) → sum_of x y ≡ sum_of y x
sum_of-comm x y = search (rules, split-sum)

pub sum_of-assoc : (x y z : ℤ) → sum_of (sum_of x y) z ≡ sum_of x (sum_of y z)
sum_of-assoc x y z = search (rules, split-sum, sum_of, value_of-sum_of, weakness_of-sum_of)

pub sum_of-le : (x x' y y' : ℤ) → x ≤ℤ x' → y ≤ℤ y' → sum_of x y ≤ℤ sum_of x' y'
sum_of-le x x' y y' h k =
    let one = split-sum x y in
    let two = split-sum x' y' in
    let a = split x in
    let a' = split x' in
    let b = split y in
    let b' = split y' in
    omega (arith, ints)

-- A bound that is "at most 0" or looser tightens nothing.
pub le_sum_of-right : (x y : ℤ) → pos 1 ≤ℤ y → x ≤ℤ sum_of x y
le_sum_of-right x y h =
    let one = split-sum x y in
    let a = split x in
    let b = split y in
    omega (arith, ints)

pub le_sum_of-left : (x y : ℤ) → pos 1 ≤ℤ y → x ≤ℤ sum_of y x
le_sum_of-left x y h = rw (sum_of-comm y x) (le_sum_of-right x y h)

pub sum_of-swap : (x y : ℤ) → pos 1 ≤ℤ sum_of x y → pos 1 ≤ℤ sum_of y x
sum_of-swap x y h = rw (sum_of-comm y x) h

pub le_trans : (x y z : ℤ) → x ≤ℤ y → y ≤ℤ z → x ≤ℤ z
le_trans x y z h k = omega (arith, ints)
