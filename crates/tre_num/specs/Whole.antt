-- Whole numbers from -2^63 to 2^63 - 1, in decimal digits.
use Rattle.std.specs.Prelude.{ℕ, ◌-◌, ◌^◌, nat_le, ◌==◌, Bool, ◌&&◌, ◌||◌, Option, Some, None, List, [], ◌∷◌, ℤ, pos, neg_ℤ, option_map, if◌then◌else◌}
use Rattle.std.specs.Char.{is_ascii_digit}
use Rattle.std.specs.Str.Parse.{digits_value}
use Rattle.tre_decimal.specs.Decimal.{is_numeral}

-- the number that digits write, where it is no more than this
abbrev pub number_up_to : ℕ → List ℕ → Option ℕ
number_up_to most digits =
    if is_numeral digits && nat_le (digits_value 10 digits) most
    then Some (digits_value 10 digits) else None

-- The whole number that bytes write, if they write one: digits, or a minus (45) and digits.
abbrev pub whole_of : List ℕ → Option ℤ
whole_of [] = None
whole_of (byte ∷ bytes) =
    if byte == 45 then option_map (λ number. neg_ℤ (pos number)) (number_up_to (2 ^ 63) bytes)
    else option_map pos (number_up_to (2 ^ 63 - 1) (byte ∷ bytes))

-- a byte of a whole number: a digit or a minus
abbrev pub is_whole_byte : ℕ → Bool
is_whole_byte byte = is_ascii_digit byte || byte == 45
