-- The bytes of a line: they are ASCII, and a whole number has at most 20 of them.
use Rattle.std.proofs.Common.{◌≡◌, ℕ, zero, suc, ◌-◌, ◌+◌, ◌/◌, ◌%◌, ◌<◌, ◌≤◌, ◌^◌, length, decimal, Bool, true, false, Some, List, [], ◌∷◌, ◌++◌, append_assoc, refl, sym, ap, ◌∙◌, codes, IsAscii, if◌then◌else◌, arith}
use Rattle.std.proofs.Math.Nat.{div-le_self}
use Rattle.std.proofs.lemmas.Fmt.{IsAscii-decimal, length-decimal-le}
use Rattle.std.proofs.lemmas.Str.{IsAscii-append}
use Rattle.std.proofs.lemmas.Str.Ascii.{IsAscii-nil, IsAscii-cons}
use Rattle.tre_decimal.specs.Decimal.{last_digits, number_text}
use Rattle.tre_zone.specs.Interval.{IntervalEnds}
use Rattle.tre_show.specs.Interval.{lower_text, upper_text, interval_text}
use Rattle.tre_show.specs.Line.{line_text}

pub digits_fit : (n : ℕ) → n < 2 ^ 64 → length (decimal n) ≤ 20
digits_fit n small = length-decimal-le 20 n (omega arith) (omega (arith, small)) small

one_ascii : (sign : ℕ) → sign < 128 → IsAscii (sign ∷ [])
one_ascii sign small = IsAscii-cons sign [] small IsAscii-nil

-- ---- a number

last_ascii : (count number : ℕ) → IsAscii (last_digits count number)
last_ascii zero number = IsAscii-nil
last_ascii (suc count) number =
    IsAscii-append (last_digits count (number / 10)) ((48 + number % 10) ∷ [])
    (last_ascii count (number / 10)) (one_ascii (48 + number % 10) (omega arith))

pub number_ascii : (scale units : ℕ) → units < 2 ^ 64 → IsAscii (number_text scale units)
number_ascii zero units small = IsAscii-decimal units small
number_ascii (suc scale) units small =
    let front = units / 10 ^ suc scale in
    let less : front < 2 ^ 64 = omega (arith, small, div-le_self units (10 ^ suc scale)) in
    IsAscii-append (decimal front ++ codes ".") (last_digits (suc scale) units)
    (IsAscii-append (decimal front) (codes ".") (IsAscii-decimal front less)
    (one_ascii 46 (omega arith))) (last_ascii (suc scale) units)

-- one of the last digits, and those before it
pub last_before : (count number : ℕ) (rest : List ℕ) → 0 < count
    → last_digits (count - 1) (number / 10) ++ (48 + number % 10) ∷ rest
    ≡ last_digits count number ++ rest
last_before zero number rest some = absurd (omega arith)
last_before (suc count) number rest some =
    let less : suc count - 1 ≡ count = omega arith in
    ap (λ n. last_digits n (number / 10) ++ (48 + number % 10) ∷ rest) less
    ∙ sym (append_assoc (last_digits count (number / 10)) ((48 + number % 10) ∷ []) rest)

-- ---- an interval

opening_ascii : (weak : Bool) → IsAscii (if weak then codes "[" else codes "(")
opening_ascii true = one_ascii 91 (omega arith)
opening_ascii false = one_ascii 40 (omega arith)

closing_ascii : (weak : Bool) → IsAscii (if weak then codes "]" else codes ")")
closing_ascii true = one_ascii 93 (omega arith)
closing_ascii false = one_ascii 41 (omega arith)

pub between_ascii : (scale low high : ℕ) (low_weak high_weak : Bool)
    → IsAscii (number_text scale low) → IsAscii (number_text scale high)
    → IsAscii (lower_text scale low low_weak ++ upper_text scale (Some high) high_weak)
between_ascii scale low high low_weak high_weak ascii ascii' =
    let opens = if low_weak then codes "[" else codes "(" in
    IsAscii-append (lower_text scale low low_weak) (upper_text scale (Some high) high_weak)
    (IsAscii-append (opens ++ number_text scale low) (codes ",")
    (IsAscii-append opens (number_text scale low) (opening_ascii low_weak) ascii)
    (one_ascii 44 (omega arith)))
    (IsAscii-append (number_text scale high) (if high_weak then codes "]" else codes ")")
    ascii' (closing_ascii high_weak))

-- the text of an interval, read from its front
pub bracketed : (open_sign close_sign : ℕ) (low high rest : List ℕ)
    → open_sign ∷ (low ++ 44 ∷ (high ++ close_sign ∷ rest))
    ≡ (open_sign ∷ []) ++ low ++ (44 ∷ []) ++ (high ++ (close_sign ∷ [])) ++ rest
bracketed open_sign close_sign low high rest =
    rw (
      append_assoc (low ++ 44 ∷ []) (high ++ close_sign ∷ []) rest,
      append_assoc low (44 ∷ []) (high ++ close_sign ∷ [] ++ rest),
      append_assoc high (close_sign ∷ []) rest,
    ) refl

-- ---- a line

pub line_ascii : (scale : ℕ) (begin end duration : IntervalEnds)
    → IsAscii (interval_text scale begin) → IsAscii (interval_text scale end)
    → IsAscii (interval_text scale duration) → IsAscii (line_text scale begin end duration)
line_ascii scale begin end duration begins ends lasts =
    let blank = one_ascii 32 (omega arith) in
    let a = interval_text scale begin in
    let b = a ++ codes " " ++ interval_text scale end in
    IsAscii-append (b ++ codes " " ++ interval_text scale duration) (codes "\n")
    (IsAscii-append (b ++ codes " ") (interval_text scale duration)
    (IsAscii-append b (codes " ")
    (IsAscii-append (a ++ codes " ") (interval_text scale end)
    (IsAscii-append a (codes " ") begins blank) ends) blank) lasts) (one_ascii 10 (omega arith))
