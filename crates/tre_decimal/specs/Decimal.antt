-- Whole numbers of units as decimals: which number a text is, and how a number is written.
use Rattle.std.specs.Prelude.{ℕ, zero, suc, ◌+◌, ◌-◌, ◌*◌, ◌/◌, ◌%◌, ◌^◌, nat_lt, ◌==◌, Bool, ◌&&◌, ◌||◌, Option, Some, None, List, [], ◌∷◌, ◌++◌, length, take, drop, codes, decimal, if◌then◌else◌}
use Rattle.std.specs.Char.{is_ascii_digit}
use Rattle.std.specs.List.{list_all, before_first, after_first}
use Rattle.std.specs.Str.Parse.{digits_value}

-- ---- the number that a text is

abbrev pub is_numeral : List ℕ → Bool
is_numeral bytes = nat_lt 0 (length bytes) && list_all is_ascii_digit bytes

abbrev pub is_point : ℕ → Bool
is_point byte = byte == 46

abbrev pub is_zero : ℕ → Bool
is_zero byte = byte == 48

-- Digits with these decimals behind them, in units: none where a decimal past the scale isn't 0.
abbrev pub units_with : ℕ → List ℕ → List ℕ → Option ℕ
units_with scale whole decimals =
    if list_all is_zero (drop scale decimals)
    then Some (digits_value 10 (whole ++ take scale decimals) * 10 ^ (scale - length decimals))
    else None

-- What stands before a point and behind it, in units, where both are digits.
abbrev pub units_between : ℕ → List ℕ → List ℕ → Option ℕ
units_between scale whole decimals =
    if is_numeral whole && is_numeral decimals then units_with scale whole decimals else None

-- The number of units that a decimal is: digits, or digits, a point and digits. Another text is
-- none.
abbrev pub units_of : ℕ → List ℕ → Option ℕ
units_of scale text =
    if is_numeral text then Some (digits_value 10 text * 10 ^ scale)
    else units_between scale (before_first is_point text) (after_first is_point text)

-- ---- the text of a number

-- a byte that may stand in the text of a number
abbrev pub is_number_byte : ℕ → Bool
is_number_byte byte = is_ascii_digit byte || is_point byte

-- the last digits of a number, so many of them
abbrev pub last_digits : ℕ → ℕ → List ℕ
last_digits zero number = []
last_digits (suc count) number = last_digits count (number / 10) ++ (48 + number % 10) ∷ []

-- A number of units: all but the last digits, a point and those, as many as the scale is. At scale
-- 0 there is no point.
abbrev pub number_text : ℕ → ℕ → List ℕ
number_text zero units = decimal units
number_text (suc scale) units =
    decimal (units / 10 ^ suc scale) ++ codes "." ++ last_digits (suc scale) units
