-- A number that is written is read back.
use Rattle.std.proofs.Common.{◌≡◌, ℕ, zero, suc, ◌+◌, ◌*◌, ◌-◌, ◌/◌, ◌%◌, ◌<◌, ◌≤◌, ◌^◌, Bool, true, false, Some, None, List, [], ◌∷◌, ◌++◌, length, take, drop, refl, sym, ap, ◌∙◌, ⊎_elim, arith}
use Rattle.std.specs.Prelude.{codes, decimal, nat_lt, ◌&&◌, if◌then◌else◌}
use Rattle.std.specs.Char.{digit_value, is_ascii_digit}
use Rattle.std.specs.List.{list_all, before_first, after_first, position_or_len}
use Rattle.std.specs.Str.Parse.{AllDigits, digits_value, digits_value_after}
use Rattle.std.proofs.Math.Nat.{mul_assoc, mul_comm, mul-one, pow-suc, div-one, div-div-eq-div-mul, div-add-mod', div-le_self}
use Rattle.std.proofs.lemmas.Bool.{cases_lt}
use Rattle.std.proofs.lemmas.Bool.Decides.{nat_tests}
use Rattle.std.proofs.lemmas.Fmt.{decimal_digit, decimal_is_IsNumeral}
use Rattle.std.proofs.lemmas.Grind.{common_steps}
use Rattle.std.proofs.lemmas.List.{append_assoc, take_all, drop_all, take_at, drop_at, length-append, length-drop, take-append-drop}
use Rattle.std.proofs.lemmas.List.Folds.{list_all-append}
use Rattle.std.proofs.lemmas.Nat.{pow-add}
use Rattle.std.proofs.lemmas.Str.Parse.{digit_from_value}
use Rattle.tre_decimal.specs.Decimal.{is_numeral, is_point, is_zero, units_with, units_between, units_of, last_digits, number_text}
use Rattle.tre_decimal.proofs.Digits.{value-append, zeros_value}
use Rattle.tre_decimal.proofs.Units.{units-numeral, units-parted, two_parts}

-- ---- the last digits of a number

pub length-last : (count number : ℕ) → length (last_digits count number) ≡ count
length-last zero number = refl
length-last (suc count) number =
    length-append (last_digits count (number / 10)) ((48 + number % 10) ∷ [])
    ∙ omega (arith, length-last count (number / 10))

last_digit : (number : ℕ) → digit_value (48 + number % 10) ≡ number % 10
last_digit number =
    let small : number % 10 < 10 = omega arith in grind (arith, common_steps)

one_digit : (number : ℕ) → is_ascii_digit (48 + number % 10) ≡ true
one_digit number =
    let small : number % 10 < 10 = omega arith in grind (arith, nat_tests)

pub digits-last : (count number : ℕ)
    → list_all is_ascii_digit (last_digits count number) ≡ true
digits-last zero number = refl
digits-last (suc count) number =
    rw (
      list_all-append is_ascii_digit (last_digits count (number / 10))
          ((48 + number % 10) ∷ []),
      digits-last count (number / 10),
      one_digit number,
    ) refl

-- Behind what is in front of them, the last digits write the number again.
pub last_value : (count number : ℕ)
    → digits_value_after 10 (number / 10 ^ count) (last_digits count number) ≡ number
last_value zero number = div-one number
last_value (suc count) number =
    let front = last_digits count (number / 10) in
    let digit = 48 + number % 10 in
    let power : number / 10 ^ suc count ≡ number / 10 / 10 ^ count =
    ap (λ n. number / n) (pow-suc 10 count ∙ mul_comm (10 ^ count) 10)
    ∙ sym (div-div-eq-div-mul number 10 (10 ^ count)) in
    ap (λ n. digits_value_after 10 n (front ++ digit ∷ [])) power
    ∙ value-append (number / 10 / 10 ^ count) front (digit ∷ [])
    ∙ ap (λ n. n * 10 + digit_value digit) (last_value count (number / 10))
    ∙ ap (λ n. number / 10 * 10 + n) (last_digit number)
    ∙ div-add-mod' number 10

-- The digits of a number without its last one, and that one.
pub last_step : (count number : ℕ) → 0 < count
    → last_digits (count - 1) (number / 10) ++ decimal (number % 10) ≡ last_digits count number
last_step zero number some = absurd (omega arith)
last_step (suc count) number some =
    let less : suc count - 1 ≡ count = omega arith in
    rw (less, decimal_digit (number % 10) (omega arith)) refl

-- What stands in front of the point, the point, and what stands behind it.
pub with_point : (scale units : ℕ) (old : List ℕ) → 0 < scale
    → ((old ++ decimal (units / 10 ^ scale)) ++ codes ".") ++ last_digits scale units
    ≡ old ++ number_text scale units
with_point zero units old some = absurd (omega arith)
with_point (suc scale) units old some =
    ap (λ text. text ++ last_digits (suc scale) units)
    (append_assoc old (decimal (units / 10 ^ suc scale)) (codes "."))
    ∙ append_assoc old (decimal (units / 10 ^ suc scale) ++ codes ".")
    (last_digits (suc scale) units)

-- ---- the digits in front of the point

digits_all : (xs : List ℕ) → AllDigits 10 xs → list_all is_ascii_digit xs ≡ true
digits_all [] all = refl
digits_all (x ∷ xs) all =
    let range = digit_from_value x all.0 in
    let here : is_ascii_digit x ≡ true = grind (arith, nat_tests) in
    rw (here, digits_all xs all.1) refl

pub decimal-numeral : (n : ℕ) → n < 2 ^ 64 → is_numeral (decimal n) ≡ true
decimal-numeral n small =
    let numeral = decimal_is_IsNumeral n small in
    let some : nat_lt 0 (length (decimal n)) ≡ true = grind (arith, nat_tests) in
    rw (some, digits_all (decimal n) numeral.0.1) refl

-- ---- the point

-- a digit is no point
no_point : (byte : ℕ) → is_ascii_digit byte ≡ true → is_point byte ≡ false
no_point byte digit = grind (arith, nat_tests)

-- The first point stands behind the digits.
first_place : (whole rest : List ℕ) → list_all is_ascii_digit whole ≡ true
    → position_or_len is_point (whole ++ 46 ∷ rest) ≡ length whole
first_place [] rest digits = refl
first_place (x ∷ xs) rest digits =
    let here : is_ascii_digit x ≡ true = grind (arith, nat_tests) in
    let more : list_all is_ascii_digit xs ≡ true = grind (arith, nat_tests) in
    rw (no_point x here, first_place xs rest more) (omega arith)

-- digits with a point among them are no digits alone
no_numeral : (whole rest : List ℕ) → is_numeral (whole ++ 46 ∷ rest) ≡ false
no_numeral whole rest =
    rw (list_all-append is_ascii_digit whole (46 ∷ rest))
    (ends (nat_lt 0 (length (whole ++ 46 ∷ rest))) (list_all is_ascii_digit whole))
  where
    ends : (a b : Bool) → (a && (b && false)) ≡ false
    ends true true = refl
    ends true false = refl
    ends false b = refl

pub numeral_digits : (xs : List ℕ) → is_numeral xs ≡ true → list_all is_ascii_digit xs ≡ true
numeral_digits xs numeral = grind (arith, nat_tests)

-- The number of digits, a point and digits.
pub units-point : (scale : ℕ) (whole decimals : List ℕ) → is_numeral whole ≡ true
    → units_of scale (whole ++ 46 ∷ decimals) ≡ units_between scale whole decimals
units-point scale whole decimals numeral =
    let text = whole ++ 46 ∷ decimals in
    let place = first_place whole decimals (numeral_digits whole numeral) in
    let front : before_first is_point text ≡ whole =
    ap (λ n. take n text) place ∙ take_at whole (46 ∷ decimals) (length whole) refl in
    let back : after_first is_point text ≡ decimals =
    ap (λ n. drop (n + 1) text) place
    ∙ ap (drop (length whole + 1)) (sym (append_assoc whole (46 ∷ []) decimals))
    ∙ drop_at (whole ++ 46 ∷ []) decimals (length whole + 1) (length-append whole (46 ∷ [])) in
    units-parted scale text (no_numeral whole decimals)
    ∙ ap (λ xs. units_between scale xs (after_first is_point text)) front
    ∙ ap (units_between scale whole) back

-- ---- a number that is written

pub read_back : (scale units : ℕ) → units < 2 ^ 64
    → units_of scale (number_text scale units) ≡ Some units
read_back zero units small =
    units-numeral 0 (decimal units) (decimal-numeral units small)
    ∙ ap Some (mul-one (digits_value 10 (decimal units))
    ∙ (decimal_is_IsNumeral units small).1)
read_back (suc scale) units small =
    let most = suc scale in
    let front = units / 10 ^ most in
    let whole = decimal front in
    let decimals = last_digits most units in
    let size = length-last most units in
    let less : front < 2 ^ 64 = omega (arith, small, div-le_self units (10 ^ most)) in
    let numeral = decimal-numeral front less in
    let all : take most decimals ≡ decimals = take_all most decimals (omega (arith, size)) in
    let none : drop most decimals ≡ [] = drop_all most decimals (omega (arith, size)) in
    let digits : list_all is_ascii_digit (take most decimals) ≡ true =
    ap (list_all is_ascii_digit) all ∙ digits-last most units in
    let exponent : most - length decimals ≡ 0 = omega (arith, size) in
    let value : digits_value 10 (whole ++ take most decimals) ≡ units =
    ap (λ xs. digits_value 10 (whole ++ xs)) all
    ∙ value-append 0 whole decimals
    ∙ ap (λ n. digits_value_after 10 n decimals) (decimal_is_IsNumeral front less).1
    ∙ last_value most units in
    ap (units_of most) (append_assoc whole (46 ∷ []) decimals)
    ∙ units-point most whole decimals numeral
    ∙ two_parts most whole decimals numeral (omega (arith, size)) digits
    (ap (list_all is_zero) none)
    ∙ ap (λ n. Some (digits_value 10 (whole ++ take most decimals) * 10 ^ n)) exponent
    ∙ ap Some (mul-one (digits_value 10 (whole ++ take most decimals)) ∙ value)

-- ---- what a decimal is, exactly

-- Some of the digits are dropped, all of them zeros.
cut : (scale : ℕ) (whole decimals : List ℕ) → scale ≤ length decimals
    → list_all is_zero (drop scale decimals) ≡ true
    → digits_value 10 (whole ++ take scale decimals) * 10 ^ (scale - length decimals)
    * 10 ^ length decimals ≡ digits_value 10 (whole ++ decimals) * 10 ^ scale
cut scale whole decimals within zeros =
    let value = digits_value 10 (whole ++ take scale decimals) in
    let rest = drop scale decimals in
    let none : scale - length decimals ≡ 0 = omega arith in
    let size : length decimals ≡ length rest + scale = omega (arith, length-drop scale decimals) in
    let all : digits_value 10 (whole ++ decimals) ≡ value * 10 ^ length rest =
    ap (λ xs. digits_value 10 (whole ++ xs)) (sym (take-append-drop scale decimals))
    ∙ ap (digits_value 10) (sym (append_assoc whole (take scale decimals) rest))
    ∙ value-append 0 (whole ++ take scale decimals) rest
    ∙ zeros_value value rest zeros in
    ap (λ n. value * 10 ^ n * 10 ^ length decimals) none
    ∙ ap (λ n. n * 10 ^ length decimals) (mul-one value)
    ∙ ap (λ n. value * 10 ^ n) size
    ∙ ap (λ n. value * n) (pow-add 10 (length rest) scale)
    ∙ sym (mul_assoc value (10 ^ length rest) (10 ^ scale))
    ∙ ap (λ n. n * 10 ^ scale) (sym all)

-- All the digits are kept.
kept : (scale : ℕ) (whole decimals : List ℕ) → length decimals < scale
    → digits_value 10 (whole ++ take scale decimals) * 10 ^ (scale - length decimals)
    * 10 ^ length decimals ≡ digits_value 10 (whole ++ decimals) * 10 ^ scale
kept scale whole decimals short =
    let all : take scale decimals ≡ decimals = take_all scale decimals (omega arith) in
    let size : scale - length decimals + length decimals ≡ scale = omega arith in
    mul_assoc (digits_value 10 (whole ++ take scale decimals)) (10 ^ (scale - length decimals))
    (10 ^ length decimals)
    ∙ ap (λ n. digits_value 10 (whole ++ take scale decimals) * n)
    (sym (pow-add 10 (scale - length decimals) (length decimals)) ∙ ap (λ n. 10 ^ n) size)
    ∙ ap (λ xs. digits_value 10 (whole ++ xs) * 10 ^ scale) all

pub nothing_rounded : (scale units : ℕ) (whole decimals : List ℕ)
    → units_with scale whole decimals ≡ Some units
    → units * 10 ^ length decimals ≡ digits_value 10 (whole ++ decimals) * 10 ^ scale
nothing_rounded scale units whole decimals is =
    by (list_all is_zero (drop scale decimals)) refl is
  where
    by : (zeros : Bool) → list_all is_zero (drop scale decimals) ≡ zeros
        → (if zeros
        then Some (digits_value 10 (whole ++ take scale decimals) * 10 ^ (scale - length decimals))
        else None) ≡ Some units
        → units * 10 ^ length decimals ≡ digits_value 10 (whole ++ decimals) * 10 ^ scale
    by false zeros e = cc
    by true zeros e =
        let same : digits_value 10 (whole ++ take scale decimals) * 10 ^ (scale - length decimals)
        ≡ units = cc in
        ap (λ n. n * 10 ^ length decimals) (sym same)
        ∙ ⊎_elim (λ short. kept scale whole decimals short)
        (λ within. cut scale whole decimals within zeros) (cases_lt (length decimals) scale)
