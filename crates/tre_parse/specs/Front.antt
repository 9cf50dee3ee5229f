-- The next token of a list, and those after it.
use Rattle.std.specs.Prelude.{ℕ, List, [], ◌∷◌, map}
use Rattle.tre_parse.specs.declared.token.Token.{Token}
use Rattle.tre_parse.specs.declared.token.TokenAt.{TokenAt}
use Rattle.tre_parse.specs.declared.token.Token.TheVariants.{EndOfText}

-- The tokens of a list that has the offset of each with it, and those offsets.
abbrev pub tokens_in : List TokenAt → List Token
tokens_in placed = map (λ one. one.token) placed

abbrev pub offsets_in : List TokenAt → List ℕ
offsets_in placed = map (λ one. one.at) placed

abbrev pub front : List Token → Token
front [] = EndOfText
front (token ∷ rest) = token

abbrev pub tail : List Token → List Token
tail [] = []
tail (token ∷ rest) = rest
