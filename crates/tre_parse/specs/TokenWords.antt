-- The words that the parser's tokens stand for: one token for each sign and each reserved word.
use Rattle.std.specs.Prelude.{◌≡◌, ℕ, true, if◌then◌else◌, unwrap_or, List, [], ◌∷◌, codes, map}
use Rattle.std.specs.Map.{lookup}
use Rattle.std.specs.Str.{bytes_eq}
use Rattle.tre_trace.specs.Reading.{Vocabulary}
use Rattle.tre_parse.specs.declared.token.Token.{Token}
use Rattle.tre_parse.specs.declared.token.Token.TheVariants.{Name, EventName, Number, LeftParen, RightParen, LeftBracket, RightBracket, LeftBrace, RightBrace, Comma, Semicolon, Bar, DoubleBar, Ampersand, DoubleAmpersand, Bang, Star, Plus, Question, Percent, Begins, Ends, Eps, Rise, Fall, Inf, True, Event, EndOfText}
use Rattle.tre_parse.specs.declared.before.Before.{Before}
use Rattle.tre_parse.specs.declared.before.Before.TheVariants.{EventWord, Other}
use Rattle.tre_parse.specs.declared.lexeme.TheConstants.{SIGNS}
use Rattle.tre_parse.specs.Lexeme.{reserved}
use Rattle.tre_parse.specs.Known.{behind_paren, kind_behind, names_of_kind, numbered}
use Rattle.tre_parse.specs.Words.{Words, is_name, is_number, place_in, units_within}
use Rattle.tre_parse.specs.Tokens.{RawToken, RawTokenAt, name as raw_name, event_name as raw_event, number as raw_number, sign as raw_sign}

-- the bytes of a token that is neither a name nor a number
abbrev pub text_of : Token → List ℕ
text_of LeftParen = codes "("
text_of RightParen = codes ")"
text_of LeftBracket = codes "["
text_of RightBracket = codes "]"
text_of LeftBrace = codes "{"
text_of RightBrace = codes "}"
text_of Comma = codes ","
text_of Semicolon = codes ";"
text_of Bar = codes "|"
text_of DoubleBar = codes "||"
text_of Ampersand = codes "&"
text_of DoubleAmpersand = codes "&&"
text_of Bang = codes "!"
text_of Star = codes "*"
text_of Plus = codes "+"
text_of Question = codes "?"
text_of Percent = codes "%"
text_of Begins = codes "<:"
text_of Ends = codes ":>"
text_of Eps = codes "eps"
text_of Rise = codes "rise"
text_of Fall = codes "fall"
text_of Inf = codes "inf"
text_of True = codes "true"
text_of Event = codes "event"
text_of _ = []

-- the token of a sign or a reserved word
abbrev pub known_as : List ℕ → Token
known_as text =
    unwrap_or (lookup (λ one. bytes_eq one.now text) SIGNS) (unwrap_or (reserved text) EndOfText)

abbrev pub before_word : Before → List ℕ → Before
before_word before text =
    if bytes_eq text (codes "event") then EventWord
    else (if bytes_eq text (codes "(") then behind_paren before else Other)

abbrev pub text_in : RawToken → List ℕ
text_in (raw_name text) = text
text_in (raw_event text) = text
text_in (raw_number text) = text
text_in (raw_sign token) = text_of token

abbrev pub WordAt : Type 0
WordAt = ℕ × List ℕ

abbrev pub word_at : RawTokenAt → WordAt
word_at raw = (raw.at, text_in raw.word)

module _ (scale : ℕ) (known : Vocabulary) where
  -- The token of a word by what stands before it.
  abbrev pub token_as : Before → List ℕ → Token
  token_as before text =
      if is_name text
      then numbered (kind_behind before) (place_in (names_of_kind (kind_behind before) known) text)
      else (if is_number text then Number (units_within scale text) else known_as text)

  abbrev pub tokens_for : Before → Words → List Token
  tokens_for before [] = []
  tokens_for before (text ∷ rest) =
      token_as before text ∷ tokens_for (before_word before text) rest

  abbrev pub tokens_as : Words → List Token
  tokens_as words = tokens_for Other words

  -- The word may be read as the token.
  abbrev pub Stands : List ℕ → Token → Type 0
  Stands word (Name i) = (is_name word ≡ true) × (i ≡ place_in known.names word)
  Stands word (EventName i) = (is_name word ≡ true) × (i ≡ place_in known.events word)
  Stands word (Number n) = (is_number word ≡ true) × (n ≡ units_within scale word)
  Stands word token = word ≡ text_of token

  -- A word and the token that it is read as.
  pub record Piece : Type 0 where
    pub word : List ℕ
    pub token : Token
    pub stands : Stands word token

  abbrev pub words_by : List Piece → Words
  words_by pieces = map (λ (piece : Piece). piece.word) pieces

  abbrev pub tokens_by : List Piece → List Token
  tokens_by pieces = map (λ (piece : Piece). piece.token) pieces

  -- Their tokens are those of their words from the beginning.
  abbrev pub AreTheirs : List Piece → Type 0
  AreTheirs pieces = tokens_by pieces ≡ tokens_as (words_by pieces)
