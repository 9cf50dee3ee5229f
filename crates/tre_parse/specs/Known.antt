-- The names of a text as they are numbered while its tokens are read from the left: what is known
-- of those that were read.
use Rattle.std.specs.Prelude.{ℕ, Bool, false, ◌&&◌, nat_lt, is_none, if◌then◌else◌, Option, Some, None, unwrap_or, List, [], ◌∷◌, ◌++◌, length, map}
use Rattle.tre_state.specs.declared.names.TheConstants.{NAMES_MAX}
use Rattle.tre_state.specs.Names.{place_of}
use Rattle.tre_trace.specs.Reading.{Vocabulary}
use Rattle.tre_syntax.specs.declared.name_kind.NameKind.{NameKind}
use Rattle.tre_syntax.specs.declared.name_kind.NameKind.TheVariants.{Proposition, Event as EventKind}
use Rattle.tre_parse.specs.declared.token.Token.{Token}
use Rattle.tre_parse.specs.declared.token.Token.TheVariants.{Name as Numbered, EventName, Number as Units, LeftParen, Event, EndOfText}
use Rattle.tre_parse.specs.declared.before.Before.{Before}
use Rattle.tre_parse.specs.declared.before.Before.TheVariants.{EventWord, EventParen, Other}
use Rattle.tre_parse.specs.Words.{units_within}
use Rattle.tre_parse.specs.Tokens.{RawToken, name, number, sign, RawTokenAt}

-- What stands before the next token. A name behind `event (` is an event's, and every other one a
-- proposition's.
abbrev pub behind_paren : Before → Before
behind_paren EventWord = EventParen
behind_paren _ = Other

abbrev pub before_sign : Before → Token → Before
before_sign before Event = EventWord
before_sign before LeftParen = behind_paren before
before_sign before _ = Other

abbrev pub before_next : Before → RawToken → Before
before_next before (sign token) = before_sign before token
before_next before _ = Other

abbrev pub kind_behind : Before → NameKind
kind_behind EventParen = EventKind
kind_behind _ = Proposition

-- The names of a kind.
abbrev pub names_of_kind : NameKind → Vocabulary → List (List ℕ)
names_of_kind Proposition known = known.names
names_of_kind EventKind known = known.events

-- The names of one kind known once one more was read: a new one goes to the end, as long as there
-- are fewer than NAMES_MAX.
abbrev pub names_with : List (List ℕ) → List ℕ → List (List ℕ)
names_with known bytes =
    if is_none (place_of known bytes) && nat_lt (length known) NAMES_MAX then known ++ bytes
    ∷ [] else known

abbrev pub vocabulary_with : NameKind → Vocabulary → List ℕ → Vocabulary
vocabulary_with Proposition known bytes =
    record { names = names_with known.names bytes; events = known.events }
vocabulary_with EventKind known bytes =
    record { names = known.names; events = names_with known.events bytes }

-- What is known of the tokens that were read: the names of each kind, and what stands before the
-- next token.
pub record Known : Type 0 where
  pub vocabulary : Vocabulary
  pub before : Before

abbrev pub nothing_known : Known
nothing_known = record { vocabulary = record { names = []; events = [] }; before = Other }

-- The number of a name is its place among those of its kind by first use from the left. None is for
-- each name past the first NAMES_MAX.
abbrev pub number_of : NameKind → Known → List ℕ → Option ℕ
number_of kind known bytes =
    place_of (names_with (names_of_kind kind known.vocabulary) bytes) bytes

abbrev pub numbered : NameKind → ℕ → Token
numbered Proposition place = Numbered place
numbered EventKind place = EventName place

-- The next token, where so much is known. No name that is read is an event's by itself.
abbrev pub next_token : ℕ → Known → RawToken → Token
next_token scale known (name bytes) =
    numbered (kind_behind known.before)
    (unwrap_or (number_of (kind_behind known.before) known bytes) NAMES_MAX)
next_token scale known (number bytes) = Units (units_within scale bytes)
next_token scale known (sign token) = token
next_token scale known _ = EndOfText

abbrev pub vocabulary_after : Known → RawToken → Vocabulary
vocabulary_after known (name bytes) =
    vocabulary_with (kind_behind known.before) known.vocabulary bytes
vocabulary_after known _ = known.vocabulary

abbrev pub known_after : Known → RawToken → Known
known_after known word =
    record { vocabulary = vocabulary_after known word; before = before_next known.before word }

abbrev pub tokens_from : ℕ → Known → List RawTokenAt → List Token
tokens_from scale known [] = []
tokens_from scale known (raw ∷ rest) =
    next_token scale known raw.word ∷ tokens_from scale (known_after known raw.word) rest

abbrev pub names_from : Known → List RawTokenAt → Vocabulary
names_from known [] = known.vocabulary
names_from known (raw ∷ rest) = names_from (known_after known raw.word) rest

-- Whether a word is a name past the first NAMES_MAX of its kind.
abbrev pub word_is_past : Known → RawToken → Bool
word_is_past known (name bytes) = is_none (number_of (kind_behind known.before) known bytes)
word_is_past known _ = false

-- The offset of the first name past the first NAMES_MAX of its kind.
abbrev pub past_from : Known → List RawTokenAt → Option ℕ
past_from known [] = None
past_from known (raw ∷ rest) =
    if word_is_past known raw.word then Some raw.at else past_from (known_after known raw.word) rest

abbrev pub offsets_of : List RawTokenAt → List ℕ
offsets_of raw_tokens = map (λ raw. raw.at) raw_tokens
