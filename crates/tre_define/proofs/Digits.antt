-- The number that digits write, one after the other.
use Rattle.std.proofs.Common.{◌≡◌, ℕ, ◌+◌, ◌*◌, ◌-◌, ◌^◌, ◌<◌, ◌≤◌, Bool, true, false, min, Some, None, List, [], ◌∷◌, ◌++◌, length, get_or, take, refl, ap, ◌∙◌, arith, rules}
use Rattle.std.specs.Prelude.{◌&&◌, if◌then◌else◌}
use Rattle.std.specs.Char.{digit_value, is_digit}
use Rattle.std.specs.List.{list_all}
use Rattle.std.specs.Str.Parse.{digits_value, digits_value_after}
use Rattle.std.proofs.lemmas.Grind.{common_steps}
use Rattle.std.proofs.lemmas.List.{take_more}
use Rattle.tre_define.specs.Signals.{based}
use Rattle.tre_define.specs.Values.{is_bit}

pub value-append : (base n : ℕ) (xs ys : List ℕ) → digits_value_after base n (xs ++ ys)
    ≡ digits_value_after base (digits_value_after base n xs) ys
value-append base n [] ys = refl
value-append base n (x ∷ xs) ys = value-append base (n * base + digit_value x) xs ys

-- one more of the digits
pub value-take : (base n : ℕ) (xs : List ℕ) (i : ℕ) → i < length xs
    → digits_value_after base n (take (i + 1) xs)
    ≡ digits_value_after base n (take i xs) * base + digit_value (get_or xs i 0)
value-take base n xs i below =
    ap (digits_value_after base n) (take_more xs i 0 below)
    ∙ value-append base n (take i xs) (get_or xs i 0 ∷ [])

-- ---- bits

pub digit_value-bit : (c : ℕ) → is_bit c ≡ true → digit_value c ≡ c - 48
digit_value-bit c bit = grind (arith, common_steps)

pub capped_step : (most n digit : ℕ) → min (2 * min n most + digit) most ≡ min (n * 2 + digit) most
capped_step most n digit = omega arith

-- ---- numbers of texts

chosen : {A : Type 0} (a b c : Bool) (x y : A) → a ≡ true → b ≡ true → c ≡ true
    → (if a && b && c then x else y) ≡ x
chosen true true true x y one two three = refl
chosen true true false x y one two three = cc
chosen true false c x y one two three = cc
chosen false b c x y one two three = cc

passed : {A : Type 0} (a b c : Bool) (x y : A) → (b && c) ≡ false
    → (if a && b && c then x else y) ≡ y
passed true true false x y none = refl
passed true false c x y none = refl
passed false b c x y none = refl
passed true true true x y none = cc

pub based-is : (base : ℕ) (digits : List ℕ) → 0 < length digits
    → list_all (λ byte. is_digit byte base) digits ≡ true → digits_value base digits < 2 ^ 64
    → based base digits ≡ Some (digits_value base digits)
based-is base digits some all small = search rules

pub based-large : (base : ℕ) (digits : List ℕ) → 2 ^ 64 ≤ digits_value base digits
    → based base digits ≡ None
based-large base digits large = search rules
