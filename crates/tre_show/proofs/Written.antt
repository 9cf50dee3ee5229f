-- A number that is written is taken whole as one number, before what can stand behind it.
use Rattle.std.proofs.Common.{◌≡◌, ℕ, zero, suc, ◌+◌, ◌/◌, ◌<◌, ◌≤◌, ◌^◌, Bool, true, false, cond, Some, List, [], ◌∷◌, ◌++◌, length, refl, sym, ap, ◌∙◌, append_assoc, arith, rules}
use Rattle.std.specs.Prelude.{decimal, ◌||◌}
use Rattle.std.specs.Char.{is_ascii_digit}
use Rattle.std.specs.List.{prefix_len, AllPass, list_all}
use Rattle.std.specs.Str.Parse.{AllDigits}
use Rattle.std.proofs.Math.Nat.{div-le_self}
use Rattle.std.proofs.lemmas.Bool.Decides.{nat_tests}
use Rattle.std.proofs.lemmas.Fmt.{decimal_is_IsNumeral}
use Rattle.std.proofs.lemmas.List.{drop_at, length-append}
use Rattle.std.proofs.lemmas.List.Elements.{All-cons, All-nil}
use Rattle.std.proofs.lemmas.List.Sums.{AllPass-from_list_all}
use Rattle.std.proofs.lemmas.Str.Parse.{digit_from_value}
use Rattle.tre_decimal.specs.Decimal.{units_of, last_digits, number_text}
use Rattle.tre_state.specs.Name.{continues_name}
use Rattle.tre_parse.specs.Lexeme.{decimals_len, number_len}
use Rattle.tre_parse.specs.Words.{is_number, units_within}
use Rattle.tre_show.proofs.TreeTokens.{IsCut}

-- What the laws of decimals say at a scale: a number that is written is read back, its last digits
-- are digits, as many as the scale is, and a decimal begins with a digit.
pub record WritesNumbers (scale : ℕ) : Type 0 where
  pub read_back : (units : ℕ) → units < 2 ^ 64
      → units_of scale (number_text scale units) ≡ Some units
  pub digits : (units : ℕ) → list_all is_ascii_digit (last_digits scale units) ≡ true
  pub count : (units : ℕ) → length (last_digits scale units) ≡ scale
  pub begins : (byte units : ℕ) (bytes : List ℕ) → units_of scale (byte ∷ bytes) ≡ Some units
      → is_ascii_digit byte ≡ true

-- ---- as many bytes as pass

pub prefix_whole : (p : ℕ → Bool) (xs rest : List ℕ) → AllPass p xs → prefix_len p rest ≡ 0
    → prefix_len p (xs ++ rest) ≡ length xs
prefix_whole p [] rest all e = e
prefix_whole p (x ∷ xs) rest all e =
    let here : p x ≡ true = all 0 x (omega arith) in
    let more = prefix_whole p xs rest (λ k d below. all (suc k) d (omega (arith, below))) e in
    ap (λ t. cond t (1 + prefix_len p (xs ++ rest)) 0) here ∙ omega (arith, more)

pub cut_stops : (p : ℕ → Bool) (rest : List ℕ)
    → ((byte : ℕ) → continues_name byte ≡ false → p byte ≡ false) → IsCut rest
    → prefix_len p rest ≡ 0
cut_stops p [] fails cut = refl
cut_stops p (byte ∷ rest) fails cut = search rules

-- neither a digit nor a point goes on with a number that is cut
no_digit : (byte : ℕ) → continues_name byte ≡ false → is_ascii_digit byte ≡ false
no_digit byte cut = grind (arith, nat_tests)

no_decimals : (rest : List ℕ) → IsCut rest → decimals_len rest ≡ 0
no_decimals [] cut = refl
no_decimals (byte ∷ rest) cut = search rules

-- ---- the bytes of a number

digits_pass : (digits : List ℕ) → AllDigits 10 digits → AllPass is_ascii_digit digits
digits_pass [] all = All-nil _
digits_pass (d ∷ ds) all =
    let range = digit_from_value d all.0 in
    All-cons (λ b. is_ascii_digit b ≡ true) d ds (grind (arith, nat_tests)) (digits_pass ds all.1)

decimal_pass : (n : ℕ) → n < 2 ^ 64 → AllPass is_ascii_digit (decimal n)
decimal_pass n small =
    let numeral = decimal_is_IsNumeral n small in digits_pass (decimal n) numeral.0.1

-- Digits, and what is no digit behind them.
digits_len : (digits rest : List ℕ) → AllPass is_ascii_digit digits
    → prefix_len is_ascii_digit rest ≡ 0
    → number_len (digits ++ rest) ≡ length digits + decimals_len rest
digits_len digits rest pass stop = search (rules, prefix_whole, digits, decimals_len, drop_at)

-- Decimals behind a point, some at least.
behind_point : (digits rest : List ℕ) → AllPass is_ascii_digit digits → 0 < length digits
    → prefix_len is_ascii_digit rest ≡ 0
    → decimals_len (46 ∷ (digits ++ rest)) ≡ 1 + length digits
behind_point digits rest pass some stop = search (rules, digits, nat_tests, prefix_whole)

-- The number that is written is all of what is taken.
pub written_len : (scale units : ℕ) (rest : List ℕ) → WritesNumbers scale → units < 2 ^ 64
    → IsCut rest → number_len (number_text scale units ++ rest) ≡ length (number_text scale units)
written_len zero units rest writes small cut =
    search (rules, digits_len, decimal_pass, cut_stops, no_digit, no_decimals)
written_len (suc scale) units rest writes small cut =
    let front = units / 10 ^ suc scale in
    let less : front < 2 ^ 64 = omega (arith, small, div-le_self units (10 ^ suc scale)) in
    let whole = decimal front in
    let last = last_digits (suc scale) units in
    let some : 0 < length last = omega (arith, writes.count units) in
    let parts : ((whole ++ 46 ∷ []) ++ last) ++ rest ≡ whole ++ 46 ∷ (last ++ rest) =
    append_assoc (whole ++ 46 ∷ []) last rest ∙ append_assoc whole (46 ∷ []) (last ++ rest) in
    let all : length ((whole ++ 46 ∷ []) ++ last) ≡ length whole + (1 + length last) =
    omega (arith, length-append (whole ++ 46 ∷ []) last, length-append whole (46 ∷ [])) in
    ap number_len parts
    ∙ digits_len whole (46 ∷ (last ++ rest)) (decimal_pass front less) refl
    ∙ ap (λ n. length whole + n)
    (behind_point last rest (AllPass-from_list_all is_ascii_digit last (writes.digits units)) some
    (cut_stops is_ascii_digit rest no_digit cut))
    ∙ sym all

-- A number up to the latest time is read as that number.
pub units_read : (scale n : ℕ) → WritesNumbers scale → n ≤ 2 ^ 40
    → units_within scale (number_text scale n) ≡ n
units_read scale n writes small = search rules

-- It begins with a digit.
pub number_begins : (scale n : ℕ) → WritesNumbers scale → n ≤ 2 ^ 40
    → is_number (number_text scale n) ≡ true
number_begins scale n writes low = by (number_text scale n) (writes.read_back n (omega (arith, low)))
  where
    by : (text : List ℕ) → units_of scale text ≡ Some n → is_number text ≡ true
    by [] e = absurd (cc)
    by (byte ∷ bytes) e = ap (λ is. is || false) (writes.begins byte n bytes e)
