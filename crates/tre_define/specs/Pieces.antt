-- How a definition is cut into its parts: each is the longest run of its bytes behind spaces.
use Rattle.std.specs.Prelude.{ℕ, ◌==◌, Bool, Option, Some, None, List, [], ◌∷◌, take, drop, if◌then◌else◌}
use Rattle.std.specs.List.{prefix_len, slice_split}
use Rattle.tre_define.specs.Texts.{is_semicolon, is_space}
use Rattle.tre_define.specs.declared.comparison.Comparison.{Comparison}
use Rattle.tre_define.specs.declared.comparison.Comparison.TheVariants.{Less, AtMost, Greater, AtLeast, Equal, Unequal}

-- the parts that stand behind a semicolon, if there is one
abbrev pub parts_behind : Option (List ℕ) → List (List ℕ)
parts_behind None = []
parts_behind (Some bytes) = slice_split is_semicolon bytes

-- the bytes without the spaces in front
abbrev pub past_spaces : List ℕ → List ℕ
past_spaces bytes = drop (prefix_len is_space bytes) bytes

-- the longest run behind spaces, and what stands behind it and further spaces
abbrev pub piece : (ℕ → Bool) → List ℕ → List ℕ
piece test bytes = take (prefix_len test (past_spaces bytes)) (past_spaces bytes)

abbrev pub behind_piece : (ℕ → Bool) → List ℕ → List ℕ
behind_piece test bytes =
    past_spaces (drop (prefix_len test (past_spaces bytes)) (past_spaces bytes))

-- what stands behind the `=` (61) that bytes begin with
abbrev pub behind_equals : List ℕ → Option (List ℕ)
behind_equals [] = None
behind_equals (byte ∷ rest) = if byte == 61 then Some rest else None

-- what a sign means, and the bytes behind it
pub record Signed : Type 0 where
  pub comparison : Comparison
  pub rest : List ℕ

-- the sign of two bytes, of which the second is `=`
abbrev pub double_sign : ℕ → List ℕ → Option Signed
double_sign byte rest =
    if byte == 60 then Some (record { comparison = AtMost; rest = rest })
    else (if byte == 62 then Some (record { comparison = AtLeast; rest = rest })
    else (if byte == 61 then Some (record { comparison = Equal; rest = rest })
    else (if byte == 33 then Some (record { comparison = Unequal; rest = rest }) else None)))

abbrev pub single_sign : ℕ → List ℕ → Option Signed
single_sign byte rest =
    if byte == 60 then Some (record { comparison = Less; rest = rest })
    else (if byte == 62 then Some (record { comparison = Greater; rest = rest }) else None)

-- the longest sign that bytes begin with
abbrev pub sign_in : List ℕ → Option Signed
sign_in [] = None
sign_in (byte ∷ []) = single_sign byte []
sign_in (byte ∷ next ∷ rest) =
    if next == 61 then double_sign byte rest else single_sign byte (next ∷ rest)
