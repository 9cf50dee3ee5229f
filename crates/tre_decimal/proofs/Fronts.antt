-- What the text of a number tells, and what a decimal begins with.
use Rattle.std.proofs.Common.{◌≡◌, ℕ, zero, suc, ◌+◌, ◌/◌, ◌<◌, ◌^◌, Bool, true, false, cond, Some, None, List, [], ◌∷◌, ◌++◌, length, take, refl, sym, ap, ◌∙◌, arith}
use Rattle.std.specs.Prelude.{codes, decimal, nat_lt, ◌&&◌, not}
use Rattle.std.specs.Char.{is_ascii_digit}
use Rattle.std.specs.List.{list_all, before_first, after_first, position_or_len}
use Rattle.std.proofs.Math.Nat.{div-le_self}
use Rattle.std.proofs.lemmas.Bool.{false≢true}
use Rattle.std.proofs.lemmas.Bool.Decides.{nat_tests}
use Rattle.std.proofs.lemmas.List.Folds.{list_all-append}
use Rattle.tre_decimal.specs.Decimal.{is_numeral, is_number_byte, is_point, units_of, last_digits, number_text}
use Rattle.tre_decimal.proofs.Units.{no_left, no_right, no_whole, units-parted}
use Rattle.tre_decimal.proofs.Written.{decimal-numeral, digits-last, numeral_digits, read_back}

-- ---- the bytes of a number

digits_bytes : (xs : List ℕ) → list_all is_ascii_digit xs ≡ true
    → list_all is_number_byte xs ≡ true
digits_bytes [] digits = refl
digits_bytes (x ∷ xs) digits =
    let here : is_number_byte x ≡ true = grind (arith, nat_tests) in
    let more : list_all is_ascii_digit xs ≡ true = grind (arith, nat_tests) in
    rw (here, digits_bytes xs more) refl

decimal-bytes : (n : ℕ) → n < 2 ^ 64 → list_all is_number_byte (decimal n) ≡ true
decimal-bytes n small =
    digits_bytes (decimal n) (numeral_digits (decimal n) (decimal-numeral n small))

number-bytes : (scale units : ℕ) → units < 2 ^ 64
    → list_all is_number_byte (number_text scale units) ≡ true
number-bytes zero units small = decimal-bytes units small
number-bytes (suc scale) units small =
    let front = units / 10 ^ suc scale in
    let less : front < 2 ^ 64 = omega (arith, small, div-le_self units (10 ^ suc scale)) in
    rw (
      list_all-append is_number_byte (decimal front ++ codes ".") (last_digits (suc scale) units),
      list_all-append is_number_byte (decimal front) (codes "."),
      decimal-bytes front less,
      digits_bytes (last_digits (suc scale) units) (digits-last (suc scale) units),
    ) refl

-- ---- the first byte that is none of a number

first : (a b : Bool) → (a && b) ≡ true → a ≡ true
first true b e = refl
first false b e = e

second : (a b : Bool) → (a && b) ≡ true → b ≡ true
second true b e = e
second false b e = cc

-- Fronts that pass a test, before bytes that fail it, are the same.
same_front : (test : ℕ → Bool) (xs ys : List ℕ) (c d : ℕ) (rest other : List ℕ)
    → list_all test xs ≡ true → list_all test ys ≡ true → test c ≡ false → test d ≡ false
    → xs ++ (c ∷ rest) ≡ ys ++ (d ∷ other) → (xs ≡ ys) × (c ∷ rest ≡ d ∷ other)
same_front test [] [] c d rest other p q u v e = (refl, e)
same_front test [] (y ∷ ys) c d rest other p q u v e =
    let same : c ≡ y = cc in
    let passes : test y ≡ true = first (test y) (list_all test ys) q in
    let fails : test y ≡ false = ap test (sym same) ∙ u in
    absurd (false≢true (sym fails ∙ passes))
same_front test (x ∷ xs) [] c d rest other p q u v e =
    let same : x ≡ d = cc in
    let passes : test x ≡ true = first (test x) (list_all test xs) p in
    let fails : test x ≡ false = ap test same ∙ v in
    absurd (false≢true (sym fails ∙ passes))
same_front test (x ∷ xs) (y ∷ ys) c d rest other p q u v e =
    let here : x ≡ y = cc in
    let behind : xs ++ (c ∷ rest) ≡ ys ++ (d ∷ other) = cc in
    let more = same_front test xs ys c d rest other (second (test x) (list_all test xs) p)
    (second (test y) (list_all test ys) q) u v behind in
    let front : xs ≡ ys = more.0 in
    (cc, more.1)

pub number-end : (scale units other c d : ℕ) (rest other_rest : List ℕ) → units < 2 ^ 64
    → other < 2 ^ 64 → is_number_byte c ≡ false → is_number_byte d ≡ false
    → number_text scale units ++ (c ∷ rest) ≡ number_text scale other ++ (d ∷ other_rest)
    → (units ≡ other) × (c ∷ rest ≡ d ∷ other_rest)
number-end scale units other c d rest other_rest small below u v e =
    let ends = same_front is_number_byte (number_text scale units) (number_text scale other) c d
    rest other_rest (number-bytes scale units small) (number-bytes scale other below) u v e in
    let one : units_of scale (number_text scale units) ≡ Some units = read_back scale units small
    in
    let two : units_of scale (number_text scale other) ≡ Some other = read_back scale other below
    in
    let told : Some units ≡ Some other = sym one ∙ ap (units_of scale) ends.0 ∙ two in
    (cc, ends.1)

-- ---- the first byte of a decimal

no_digit : (byte : ℕ) (bytes : List ℕ) → is_ascii_digit byte ≡ false
    → is_numeral (byte ∷ bytes) ≡ false
no_digit byte bytes bad =
    no_right (nat_lt 0 (length (byte ∷ bytes))) (list_all is_ascii_digit (byte ∷ bytes))
    (no_left (is_ascii_digit byte) (list_all is_ascii_digit bytes) bad)

-- what stands before the first point begins with the same byte, or is nothing
no_front : (byte : ℕ) (bytes : List ℕ) → is_ascii_digit byte ≡ false
    → is_numeral (before_first is_point (byte ∷ bytes)) ≡ false
no_front byte bytes bad = by (is_point byte)
  where
    by : (point : Bool)
        → is_numeral (take (cond (not point) (1 + position_or_len is_point bytes) 0) (byte ∷ bytes))
        ≡ false
    by true = refl
    by false =
        let more : 1 + position_or_len is_point bytes ≡ suc (position_or_len is_point bytes) =
        omega arith in
        ap (λ n. is_numeral (take n (byte ∷ bytes))) more
        ∙ no_digit byte (take (position_or_len is_point bytes) bytes) bad

pub decimal-first : (scale byte units : ℕ) (bytes : List ℕ)
    → units_of scale (byte ∷ bytes) ≡ Some units → is_ascii_digit byte ≡ true
decimal-first scale byte units bytes is = by (is_ascii_digit byte) refl
  where
    -- where it isn't a digit, nothing that begins with it is a numeral
    by : (digit : Bool) → is_ascii_digit byte ≡ digit → is_ascii_digit byte ≡ true
    by true digit = digit
    by false digit =
        let none = units-parted scale (byte ∷ bytes) (no_digit byte bytes digit)
        ∙ no_whole scale (before_first is_point (byte ∷ bytes)) (after_first is_point (byte ∷ bytes))
        (no_front byte bytes digit) in
        let wrong : Some units ≡ None = sym is ∙ none in cc
