-- What stands at a place of a text: the longest token there, a blank, or a byte at which no token
-- begins.
use Rattle.std.specs.Prelude.{ℕ, ◌+◌, ◌≤◌, ◌<◌, ◌&&◌, if◌then◌else◌, Option, Some, None, List, [], ◌∷◌, length, drop, nat_eq, nat_lt}
use Rattle.std.specs.Char.{is_ascii_digit}
use Rattle.std.specs.List.{prefix_len, take_while, starts_with, zip}
use Rattle.std.specs.Map.{lookup}
use Rattle.std.specs.Str.{bytes_eq}
use Rattle.tre_decimal.specs.Decimal.{is_point}
use Rattle.tre_state.specs.Name.{starts_name, continues_name}
use Rattle.tre_state.specs.declared.name.TheConstants.{RESERVED}
use Rattle.tre_parse.specs.declared.token.Token.{Token}
use Rattle.tre_parse.specs.declared.token.Token.TheVariants.{Eps, Rise, Fall, Inf, True, Event}
use Rattle.tre_parse.specs.declared.lexeme.TheConstants.{SIGNS}
use Rattle.tre_parse.specs.declared.lexeme.Lexeme.{Lexeme}
use Rattle.tre_parse.specs.declared.lexeme.Lexeme.TheVariants.{Blank, Wrong, Name, Number, Sign}
use Rattle.tre_parse.specs.Words.{is_white_space}

-- The token of a reserved word. They stand in the order of the words.
abbrev pub reserved : List ℕ → Option Token
reserved word =
    lookup (λ text. bytes_eq text.now word)
    (zip RESERVED (Eps ∷ Rise ∷ Fall ∷ Inf ∷ True ∷ Event ∷ []))

abbrev pub lexeme_named : ℕ → Option Token → Lexeme
lexeme_named len None = Name len
lexeme_named len (Some token) = Sign token len

-- A word: as many bytes as can stand in a name.
abbrev pub word_lexeme : List ℕ → Lexeme
word_lexeme rest =
    lexeme_named (prefix_len continues_name rest) (reserved (take_while continues_name rest))

-- How many bytes the decimals have that stand there: a point, and as many digits as there are, one
-- at least.
abbrev pub decimals_len : List ℕ → ℕ
decimals_len [] = 0
decimals_len (byte ∷ rest) =
    if is_point byte && nat_lt 0 (prefix_len is_ascii_digit rest)
    then 1 + prefix_len is_ascii_digit rest else 0

-- A number: as many digits as there are, and the decimals behind them, where there are any.
abbrev pub number_len : List ℕ → ℕ
number_len rest =
    prefix_len is_ascii_digit rest + decimals_len (drop (prefix_len is_ascii_digit rest) rest)

abbrev pub number_lexeme : List ℕ → Lexeme
number_lexeme rest = Number (number_len rest)

-- The first of the signs that the rest begins with, and its number of bytes.
abbrev pub first_sign : {A : Type 0} → (A → List ℕ) → (A → Token) → List A → List ℕ → Lexeme
first_sign spelling token [] rest = Wrong
first_sign spelling token (sign ∷ more) rest =
    if starts_with nat_eq rest (spelling sign) then Sign (token sign) (length (spelling sign))
    else first_sign spelling token more rest

abbrev pub sign_lexeme : List ℕ → Lexeme
sign_lexeme rest = first_sign (λ sign. sign.0.now) (λ sign. sign.1) SIGNS rest

-- What the rest of a text begins with.
abbrev pub lexeme_of : List ℕ → Lexeme
lexeme_of [] = Wrong
lexeme_of (byte ∷ rest) =
    if is_white_space byte then Blank
    else (if starts_name byte then word_lexeme (byte ∷ rest)
    else (if is_ascii_digit byte then number_lexeme (byte ∷ rest)
    else sign_lexeme (byte ∷ rest)))

-- The lexeme takes at least one byte, and no more than there are.
abbrev pub FitsIn : ℕ → Lexeme → Type 0
FitsIn available (Name len) = (0 < len) × (len ≤ available)
FitsIn available (Number len) = (0 < len) × (len ≤ available)
FitsIn available (Sign token len) = (0 < len) × (len ≤ available)
FitsIn available _ = 1 ≤ available
