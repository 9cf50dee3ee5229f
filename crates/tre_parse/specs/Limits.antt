-- The limits on numbers, names and brackets, as they are looked for among tokens.
use Rattle.std.specs.Prelude.{ℕ, ◌+◌, Bool, false, ◌==◌, nat_lt, if◌then◌else◌, Option, Some, None, List, [], ◌∷◌}
use Rattle.tre_pairs.specs.declared.TheConstants.{TIME_MAX}
use Rattle.tre_state.specs.declared.names.TheConstants.{NAMES_MAX}
use Rattle.tre_parse.specs.declared.limits.TheConstants.{DEPTH_MAX}
use Rattle.tre_parse.specs.declared.token.Token.{Token}
use Rattle.tre_parse.specs.declared.token.Token.TheVariants.{Name, EventName, Number}
use Rattle.tre_parse.specs.Outcome.{open_after}
use Rattle.tre_parse.specs.TokenWords.{text_of}

-- A number above the latest time.
abbrev pub is_above : Token → Bool
is_above (Number n) = nat_lt TIME_MAX n
is_above token = false

-- A name past the first NAMES_MAX of its kind.
abbrev pub is_past : Token → Bool
is_past (Name i) = i == NAMES_MAX
is_past (EventName i) = i == NAMES_MAX
is_past token = false

-- The first place, counted on from `place`, at which more than DEPTH_MAX brackets are open.
abbrev pub deep_place : ℕ → ℕ → List Token → Option ℕ
deep_place depth place [] = None
deep_place depth place (token ∷ rest) =
    if nat_lt DEPTH_MAX (open_after depth (text_of token)) then Some place
    else deep_place (open_after depth (text_of token)) (place + 1) rest
