-- What the tests of a text say of its number of units.
use Rattle.std.proofs.Common.{◌≡◌, ℕ, ◌+◌, ◌*◌, ◌-◌, ◌<◌, ◌≤◌, ◌^◌, min, Bool, true, false, ◌&&◌, Some, None, List, [], ◌∷◌, ◌++◌, length, take, drop, refl, sym, ap, ◌∙◌, arith}
use Rattle.std.specs.Prelude.{nat_lt, if◌then◌else◌}
use Rattle.std.specs.Char.{is_ascii_digit}
use Rattle.std.specs.List.{list_all, before_first, after_first, position_or_len}
use Rattle.std.specs.Str.Parse.{digits_value, digits_value_after}
use Rattle.std.proofs.lemmas.Bool.Decides.{nat_tests}
use Rattle.std.proofs.lemmas.List.{drop_all, take-append-drop}
use Rattle.std.proofs.lemmas.List.Folds.{list_all-append}
use Rattle.tre_decimal.specs.Decimal.{is_numeral, is_point, is_zero, units_with, units_between, units_of}
use Rattle.tre_decimal.proofs.Digits.{value-append}
use Rattle.tre_decimal.proofs.Capped.{capped_after, capped_times}

-- A number stopped at the largest one of the machine.
abbrev pub capped : ℕ → ℕ
capped units = min units (2 ^ 64 - 1)

-- ---- a choice between two

chosen : {A : Type 0} (test : Bool) (x y : A) → test ≡ true → (if test then x else y) ≡ x
chosen true x y e = refl
chosen false x y e = cc

other : {A : Type 0} (test : Bool) (x y : A) → test ≡ false → (if test then x else y) ≡ y
other true x y e = cc
other false x y e = refl

pub no_left : (a b : Bool) → a ≡ false → (a && b) ≡ false
no_left true b e = cc
no_left false b e = refl

pub no_right : (a b : Bool) → b ≡ false → (a && b) ≡ false
no_right true b e = e
no_right false b e = refl

both : (a b : Bool) → a ≡ true → b ≡ true → (a && b) ≡ true
both true true p q = refl
both true false p q = q
both false b p q = p

-- ---- digits alone, or two parts

pub units-numeral : (scale : ℕ) (text : List ℕ) → is_numeral text ≡ true
    → units_of scale text ≡ Some (digits_value 10 text * 10 ^ scale)
units-numeral scale text numeral = chosen (is_numeral text) _ _ numeral

pub units-parted : (scale : ℕ) (text : List ℕ) → is_numeral text ≡ false
    → units_of scale text
    ≡ units_between scale (before_first is_point text) (after_first is_point text)
units-parted scale text no_numeral = other (is_numeral text) _ _ no_numeral

-- where there is no digit on a side, there is no number
pub no_whole : (scale : ℕ) (whole decimals : List ℕ) → is_numeral whole ≡ false
    → units_between scale whole decimals ≡ None
no_whole scale whole decimals no_numeral =
    other (is_numeral whole && is_numeral decimals) _ _
    (no_left (is_numeral whole) (is_numeral decimals) no_numeral)

pub no_decimals : (scale : ℕ) (whole decimals : List ℕ) → is_numeral decimals ≡ false
    → units_between scale whole decimals ≡ None
no_decimals scale whole decimals no_numeral =
    other (is_numeral whole && is_numeral decimals) _ _
    (no_right (is_numeral whole) (is_numeral decimals) no_numeral)

-- without a point nothing stands behind one
pub no_point : (scale : ℕ) (text : List ℕ) → is_numeral text ≡ false
    → position_or_len is_point text ≡ length text → units_of scale text ≡ None
no_point scale text no_numeral none =
    let past : length text ≤ position_or_len is_point text + 1 = omega (arith, none) in
    units-parted scale text no_numeral
    ∙ no_decimals scale (before_first is_point text) (after_first is_point text)
    (ap is_numeral (drop_all (position_or_len is_point text + 1) text past))

-- ---- two parts

-- a test of all is one of the front and of the rest
all_parted : (test : ℕ → Bool) (n : ℕ) (xs : List ℕ)
    → list_all test xs ≡ (list_all test (take n xs) && list_all test (drop n xs))
all_parted test n xs =
    ap (list_all test) (sym (take-append-drop n xs))
    ∙ list_all-append test (take n xs) (drop n xs)

-- zeros are digits
zeros_digits : (xs : List ℕ) → list_all is_zero xs ≡ true → list_all is_ascii_digit xs ≡ true
zeros_digits [] zeros = refl
zeros_digits (x ∷ xs) zeros =
    let here : x ≡ 48 = grind (arith, nat_tests) in
    let more : list_all is_zero xs ≡ true = grind (arith, nat_tests) in
    both (is_ascii_digit x) (list_all is_ascii_digit xs) (ap is_ascii_digit here)
    (zeros_digits xs more)

pub other_byte : (scale : ℕ) (whole decimals : List ℕ)
    → list_all is_ascii_digit (take scale decimals) ≡ false
    → units_between scale whole decimals ≡ None
other_byte scale whole decimals bad =
    no_decimals scale whole decimals
    (no_right (nat_lt 0 (length decimals)) (list_all is_ascii_digit decimals)
    (all_parted is_ascii_digit scale decimals
    ∙ no_left (list_all is_ascii_digit (take scale decimals)) _ bad))

pub more_digits : (scale : ℕ) (whole decimals : List ℕ)
    → list_all is_zero (drop scale decimals) ≡ false
    → units_between scale whole decimals ≡ None
more_digits scale whole decimals some = by (is_numeral whole && is_numeral decimals)
  where
    by : (test : Bool)
        → (if test then units_with scale whole decimals else None) ≡ None
    by true = other (list_all is_zero (drop scale decimals)) _ _ some
    by false = refl

-- The number of two parts that are digits.
pub two_parts : (scale : ℕ) (whole decimals : List ℕ) → is_numeral whole ≡ true
    → 0 < length decimals → list_all is_ascii_digit (take scale decimals) ≡ true
    → list_all is_zero (drop scale decimals) ≡ true
    → units_between scale whole decimals
    ≡ Some (digits_value 10 (whole ++ take scale decimals) * 10 ^ (scale - length decimals))
two_parts scale whole decimals numeral some digits zeros =
    let any : nat_lt 0 (length decimals) ≡ true = grind (arith, nat_tests) in
    let rest = zeros_digits (drop scale decimals) zeros in
    let all = all_parted is_ascii_digit scale decimals
    ∙ both (list_all is_ascii_digit (take scale decimals)) _ digits rest in
    chosen (is_numeral whole && is_numeral decimals) _ _
    (both (is_numeral whole) (is_numeral decimals) numeral
    (both (nat_lt 0 (length decimals)) (list_all is_ascii_digit decimals) any all))
    ∙ chosen (list_all is_zero (drop scale decimals)) _ _ zeros

-- ---- stopped at the largest number

-- The number of the two parts, as it is read: the second behind the first, then times the power.
pub capped_parts : (whole kept : List ℕ) (power : ℕ) → 0 < power
    → capped (capped (digits_value_after 10 (capped (digits_value 10 whole)) kept) * power)
    ≡ capped (digits_value 10 (whole ++ kept) * power)
capped_parts whole kept power positive =
    ap (λ n. capped (n * power)) (capped_after (2 ^ 64 - 1) (digits_value 10 whole) kept)
    ∙ capped_times (2 ^ 64 - 1) (digits_value_after 10 (digits_value 10 whole) kept) power positive
    ∙ ap (λ n. capped (n * power)) (sym (value-append 0 whole kept))
