-- The number that digits write, in two parts, and with zeros at its end.
use Rattle.std.proofs.Common.{◌≡◌, ℕ, ◌+◌, ◌*◌, ◌-◌, ◌<◌, ◌^◌, true, List, [], ◌∷◌, ◌++◌, length, get_or, take, refl, ap, ◌∙◌, sym, arith}
use Rattle.std.specs.Str.Parse.{digits_value_after}
use Rattle.std.specs.Char.{digit_value, is_ascii_digit}
use Rattle.std.specs.List.{list_all}
use Rattle.std.proofs.Math.Nat.{mul_assoc, mul_comm, pow-suc, mul-one}
use Rattle.std.proofs.lemmas.Bool.Decides.{nat_tests}
use Rattle.std.proofs.lemmas.Grind.{common_steps}
use Rattle.std.proofs.lemmas.List.{take_more}
use Rattle.tre_decimal.specs.Decimal.{is_zero}

-- digits, and more behind them
pub value-append : (n : ℕ) (xs ys : List ℕ) → digits_value_after 10 n (xs ++ ys)
    ≡ digits_value_after 10 (digits_value_after 10 n xs) ys
value-append n [] ys = refl
value-append n (x ∷ xs) ys = value-append (n * 10 + digit_value x) xs ys

-- one more of the digits
pub value-take : (n : ℕ) (xs : List ℕ) (i : ℕ) → i < length xs
    → digits_value_after 10 n (take (i + 1) xs)
    ≡ digits_value_after 10 n (take i xs) * 10 + digit_value (get_or xs i 0)
value-take n xs i below =
    ap (digits_value_after 10 n) (take_more xs i 0 below)
    ∙ value-append n (take i xs) (get_or xs i 0 ∷ [])

pub digit_value-digit : (c : ℕ) → is_ascii_digit c ≡ true → digit_value c ≡ c - 48
digit_value-digit c digit = grind (arith, common_steps)

-- Zeros at the end are as many factors of ten.
pub zeros_value : (n : ℕ) (xs : List ℕ) → list_all is_zero xs ≡ true
    → digits_value_after 10 n xs ≡ n * 10 ^ length xs
zeros_value n [] zeros = sym (mul-one n)
zeros_value n (x ∷ xs) zeros =
    let here : x ≡ 48 = grind (arith, nat_tests) in
    let more : list_all is_zero xs ≡ true = grind (arith, nat_tests) in
    let value : digit_value x ≡ 0 = ap digit_value here in
    let tens : n * 10 + digit_value x ≡ n * 10 = omega (arith, value) in
    ap (λ m. digits_value_after 10 m xs) tens
    ∙ zeros_value (n * 10) xs more
    ∙ mul_assoc n 10 (10 ^ length xs)
    ∙ ap (λ m. n * m) (mul_comm 10 (10 ^ length xs) ∙ sym (pow-suc 10 (length xs)))
