-- A number that stopped at a largest one stays there, through more digits and through a product.
use Rattle.std.proofs.Common.{◌≡◌, ℕ, ◌+◌, ◌*◌, ◌<◌, ◌≤◌, min, List, [], ◌∷◌, sym, ap, ◌∙◌, ⊎_elim, arith}
use Rattle.std.specs.Str.Parse.{digits_value_after}
use Rattle.std.specs.Char.{digit_value}
use Rattle.std.proofs.Math.Nat.{le-mul_of_pos_right, mul-le-mul_right}
use Rattle.std.proofs.lemmas.Bool.{cases_lt}

-- one more digit
pub capped_step : (most n digit : ℕ) → min (min n most * 10 + digit) most
    ≡ min (n * 10 + digit) most
capped_step most n digit = omega arith

-- more digits
pub capped_after : (most n : ℕ) (xs : List ℕ) → min (digits_value_after 10 (min n most) xs) most
    ≡ min (digits_value_after 10 n xs) most
capped_after most n [] = omega arith
capped_after most n (x ∷ xs) =
    sym (capped_after most (min n most * 10 + digit_value x) xs)
    ∙ ap (λ m. min (digits_value_after 10 m xs) most) (capped_step most n (digit_value x))
    ∙ capped_after most (n * 10 + digit_value x) xs

-- a product
pub capped_times : (most n factor : ℕ) → 0 < factor → min (min n most * factor) most
    ≡ min (n * factor) most
capped_times most n factor pos = ⊎_elim
    (λ less.
    let same : min n most ≡ n = omega arith in
    ap (λ m. min (m * factor) most) same)
    (λ more.
    let same : min n most ≡ most = omega arith in
    let one : most ≤ most * factor = le-mul_of_pos_right most pos in
    let other : most * factor ≤ n * factor = mul-le-mul_right factor more in
    let first : min (min n most * factor) most ≡ min (most * factor) most =
    ap (λ m. min (m * factor) most) same in
    first ∙ omega (arith, one, other)) (cases_lt n most)
