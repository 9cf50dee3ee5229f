-- What part of a signal a text names, by the signal's full name and size.
use Rattle.std.specs.Prelude.{◌≡◌, ◌⊎◌, ℕ, min, ◌+◌, ◌-◌, ◌^◌, nat_le, Bool, ◌&&◌, ◌||◌, ◌==◌, List, [], ◌∷◌, ◌++◌, length, take, drop, Option, Some, None, option_map, option_and_then, ℤ, pos, neg_ℤ, ◌-ℤ◌, int_le, unsigned_abs, slice_index, if◌then◌else◌}
use Rattle.std.specs.List.{before_first, after_first}
use Rattle.std.specs.Option.{option_or, option_map_or}
use Rattle.std.specs.Str.{bytes_eq}
use Rattle.std.specs.Str.Parse.{digits_value}
use Rattle.tre_decimal.specs.Decimal.{is_numeral}
use Rattle.tre_define.specs.declared.part.Part.{Part}
use Rattle.tre_define.specs.declared.named.Range.{Range}

abbrev pub small_in : List ℕ → Option ℕ
small_in digits =
    if is_numeral digits && nat_le (digits_value 10 digits) (2 ^ 31 - 1)
    then Some (digits_value 10 digits) else None

-- the number of a bit: such digits, or a minus (45) and digits
abbrev pub number_in : List ℕ → Option ℤ
number_in [] = None
number_in (byte ∷ bytes) =
    if byte == 45 then option_map (λ number. neg_ℤ (pos number)) (small_in bytes)
    else option_map pos (small_in (byte ∷ bytes))

-- what stands between `[` (91) and `]` (93)
abbrev pub between_brackets : List ℕ → Option (List ℕ)
between_brackets [] = None
between_brackets (byte ∷ bytes) =
    if byte == 91 && slice_index bytes (length bytes - 1) == 93
    then Some (take (length bytes - 1) bytes) else None

abbrev pub is_colon : ℕ → Bool
is_colon byte = byte == 58

abbrev pub range_within : Option ℤ → Option ℤ → Option Range
range_within (Some left) (Some right) = Some (record { left = left; right = right })
range_within _ _ = None

abbrev pub range_between : List ℕ → Option Range
range_between numbers = range_within (number_in (before_first is_colon numbers))
    (number_in (after_first is_colon numbers))

abbrev pub range_in : List ℕ → Option Range
range_in text = option_and_then range_between (between_brackets text)

abbrev pub select_in : List ℕ → Option Range
select_in text = option_or (range_in text)
    (option_map (λ number. record { left = number; right = number })
    (option_and_then number_in (between_brackets text)))

-- what stands before the range at the end of a name, and that range
pub record Ranged : Type 0 where
  pub base : List ℕ
  pub range : Range

abbrev pub longer : ℕ → Ranged → Ranged
longer byte ranged = record { base = byte ∷ ranged.base; range = ranged.range }

abbrev pub ranged_in : List ℕ → Option Ranged
ranged_in [] = None
ranged_in (byte ∷ bytes) = option_or
    (option_map (λ range. record { base = []; range = range }) (range_in (byte ∷ bytes)))
    (option_map (longer byte) (ranged_in bytes))

-- a name without the range at its end
abbrev pub base_of : List ℕ → List ℕ
base_of name = option_map_or (λ found. found.base) (ranged_in name) name

-- It is a text, or all that stands before one of its brackets (91).
abbrev pub IsFront : List ℕ → List ℕ → Type 0
IsFront front text = (text ≡ front) ⊎ ((back : List ℕ) × (text ≡ front ++ 91 ∷ back))

-- the numbers of so many bits, of which no more than 2^31 can be selected
abbrev pub counted_bits : ℕ → Range
counted_bits size = record { left = pos (min size (2 ^ 31) - 1); right = pos 0 }

-- the same; where there is no range, the bits are numbered from size - 1 down to 0
abbrev pub ranged : List ℕ → ℕ → Ranged
ranged name size = option_map_or (λ found. found) (ranged_in name)
    (record { base = name; range = counted_bits size })

-- the numbers don't rise
abbrev pub falls : ℤ → ℤ → ℤ → ℤ → Bool
falls a b c d = int_le b a && int_le c b && int_le d c

-- The part of the bits of a range that another one selects, in the same direction.
abbrev pub part_in : Range → Range → Option Part
part_in range select =
    if falls range.left select.left select.right range.right
    || falls range.right select.right select.left range.left
    then Some (record {
      low = unsigned_abs (select.right -ℤ range.right);
      width = unsigned_abs (select.left -ℤ select.right) + 1;
    })
    else None

-- What a text names of a signal: its whole value, or some bits.
abbrev pub part_behind : Range → ℕ → List ℕ → Option Part
part_behind range size [] = Some (record { low = 0; width = size })
part_behind range size text = option_and_then (part_in range) (select_in text)

abbrev pub part_named : List ℕ → List ℕ → ℕ → Option Part
part_named text name size =
    if bytes_eq text name then Some (record { low = 0; width = size })
    else (if bytes_eq (take (length (ranged name size).base) text) (ranged name size).base
    then part_behind (ranged name size).range size
    (drop (length (ranged name size).base) text) else None)
