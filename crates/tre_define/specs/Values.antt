-- What the letters of a value say. They are those of its bits, the highest first, so that the last
-- is that of bit 0.
use Rattle.std.specs.Prelude.{ℕ, zero, suc, ◌+◌, ◌-◌, nat_le, nat_lt, not, Bool, false, ◌&&◌, ◌||◌, ◌==◌, List, [], ◌∷◌, drop, length, take, Option, Some, None, pos, slice_index, if◌then◌else◌}
use Rattle.std.specs.Char.{to_ascii_lowercase}
use Rattle.std.specs.List.{list_all}
use Rattle.std.specs.Str.Parse.{digits_value}
use Rattle.tre_define.specs.Comparison.{compares}
use Rattle.tre_define.specs.declared.comparison.Comparison.{Comparison}
use Rattle.tre_define.specs.declared.comparison.Comparison.TheVariants.{Equal}
use Rattle.tre_define.specs.declared.part.Part.{Part}
use Rattle.tre_define.specs.declared.test.Asks.{Asks}
use Rattle.tre_define.specs.declared.test.Asks.TheVariants.{Compares, Has}
use Rattle.tre_define.specs.declared.test.Test.{Test}

-- ---- the number of a part

-- `0` (48) and `1` (49); all other letters are unknown
abbrev pub is_bit : ℕ → Bool
is_bit letter = letter == 48 || letter == 49

-- the letters of a part that stand in those of a value
abbrev pub letters_of : Part → List ℕ → List ℕ
letters_of part letters =
    drop (length letters - (part.low + part.width)) (take (length letters - part.low) letters)

-- Left of its letters a value goes on with `0` where the first is `0` or `1`, and is unknown else.
abbrev pub is_known : Part → List ℕ → Bool
is_known part letters =
    nat_le (part.low + part.width) (length letters) || is_bit (slice_index letters 0)

-- the number of a part; none where a bit of it is unknown
abbrev pub number_of_part : Part → List ℕ → Option ℕ
number_of_part part letters =
    if is_known part letters && list_all is_bit (letters_of part letters)
    then Some (digits_value 2 (letters_of part letters)) else None

-- The number is as it should be beside the other. An unknown one never is.
abbrev pub compares_known : Comparison → Option ℕ → Option ℕ → Bool
compares_known comparison (Some number) (Some other) = compares comparison (pos number) (pos other)
compares_known comparison _ _ = false

-- ---- the letters of its bits

-- The letter that a value goes on with left of its own: `0` where the first is `0` or `1`, and else
-- the first, in lower case. Without letters all bits are `x` (120).
abbrev pub extension : List ℕ → ℕ
extension [] = 120
extension (first ∷ _) = if is_bit first then 48 else to_ascii_lowercase first

-- the letter of a bit, in lower case
abbrev pub letter_at : List ℕ → ℕ → ℕ
letter_at letters bit =
    if nat_lt bit (length letters)
    then to_ascii_lowercase (slice_index letters (length letters - 1 - bit))
    else extension letters

abbrev pub has_from : ℕ → ℕ → ℕ → List ℕ → Bool
has_from letter low zero letters = false
has_from letter low (suc width) letters =
    letter_at letters low == letter || has_from letter (low + 1) width letters

-- A bit of the part has this letter, which is in lower case here.
abbrev pub has : Part → ℕ → List ℕ → Bool
has part letter letters = has_from letter part.low part.width letters

abbrev pub differ_from : ℕ → ℕ → List ℕ → List ℕ → Bool
differ_from low zero old new = false
differ_from low (suc width) old new =
    not (letter_at old low == letter_at new low) || differ_from (low + 1) width old new

abbrev pub differ : Part → List ℕ → List ℕ → Bool
differ part old new = differ_from part.low part.width old new

-- ---- tests

abbrev pub is_so : Asks → Part → List ℕ → Bool
is_so (Compares comparison number) part letters =
    compares_known comparison (number_of_part part letters) (Some number)
is_so (Has letter) part letters = has part letter letters

abbrev pub passes : Test → List ℕ → Bool
passes test letters = is_so test.asks test.part letters

abbrev pub one_bit : Part → Test
one_bit part = record { part = part; asks = Compares Equal 1 }

abbrev pub plain_test : Test
plain_test = one_bit (record { low = 0; width = 1 })
