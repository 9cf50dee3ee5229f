-- The numbers of names among tokens.
use Rattle.std.specs.Prelude.{◌≡◌, ℕ, List, [], ◌∷◌, ◌++◌, Option, Some, None, length, position}
use Rattle.std.specs.Option.{option_map}
use Rattle.tre_syntax.specs.declared.name_kind.NameKind.{NameKind}
use Rattle.tre_syntax.specs.declared.name_kind.NameKind.TheVariants.{Proposition, Event}
use Rattle.tre_syntax.specs.PatternTree.{seen_after}
use Rattle.tre_parse.specs.declared.token.Token.{Token}
use Rattle.tre_parse.specs.declared.token.Token.TheVariants.{Name, EventName}
use Rattle.tre_parse.specs.Known.{names_of_kind}
use Rattle.tre_parse.specs.Limits.{is_past}
use Rattle.tre_parse.specs.ScannedOutcome.{TextTokens, offset_of}

-- The number of a token that is a name of the kind.
abbrev pub numbers_at : Token → NameKind → List ℕ
numbers_at (Name i) Proposition = i ∷ []
numbers_at (EventName i) Event = i ∷ []
numbers_at _ _ = []

abbrev pub numbers_in : NameKind → List Token → List ℕ
numbers_in kind [] = []
numbers_in kind (token ∷ rest) = numbers_at token kind ++ numbers_in kind rest

-- The offset of the first name past the first NAMES_MAX of its kind.
abbrev pub past_of : TextTokens → Option ℕ
past_of text = option_map (offset_of text) (position is_past text.tokens)

-- Where no name is past the first NAMES_MAX of its kind, the names of each kind are numbered by
-- first use from the left.
abbrev pub IsNumberedByUse : TextTokens → Type 0
IsNumberedByUse text =
    position is_past text.tokens ≡ None → (kind : NameKind) →
    seen_after 0 (numbers_in kind text.tokens) ≡ Some (length (names_of_kind kind text.names))
