-- What becomes of a text by the tokens that the parser has of it.
use Rattle.std.specs.Prelude.{◌≡◌, ℕ, ◌≤◌, None, List, length, map, take, slice_index_or, ◌+◌, MatchOption, position}
use Rattle.tre_state.specs.declared.names.TheConstants.{NAMES_MAX}
use Rattle.tre_trace.specs.Reading.{Vocabulary}
use Rattle.tre_parse.specs.declared.token.Token.{Token}
use Rattle.tre_parse.specs.declared.fault.ParseFault.{ParseFault}
use Rattle.tre_parse.specs.Words.{names_among}
use Rattle.tre_parse.specs.Outcome.{Read, words, IsFirst, HasPast, HasCause, rank}
use Rattle.tre_parse.specs.TokenWords.{Piece, words_by, tokens_by, AreTheirs}
use Rattle.tre_parse.specs.Scanned.{raw_tokens_of, tokens_of, names_of}
use Rattle.tre_parse.specs.Limits.{is_past}

-- What a text is made of: how many bytes, its tokens, the offset of each, and its names.
pub record TextTokens : Type 0 where
  pub size : ℕ
  pub tokens : List Token
  pub offsets : List ℕ
  pub names : Vocabulary

abbrev pub offset_of : TextTokens → ℕ → ℕ
offset_of text place = slice_index_or text.offsets place text.size

abbrev pub text_tokens_of : ℕ → List ℕ → TextTokens
text_tokens_of scale text =
    record {
      size = length text;
      tokens = tokens_of scale text;
      offsets = map (λ raw. raw.at) (raw_tokens_of text);
      names = names_of text;
    }

module _ (scale : ℕ) (text : List ℕ) (read : Read scale text) where
  -- At the place stands the first name past the first NAMES_MAX of its kind.
  abbrev pub IsPastAt : ℕ → Type 0
  IsPastAt place = HasPast (take (place + 1) (words read))

  -- No refusal of a lower rank has a cause.
  abbrev pub NoneBelow : ℕ → Type 0
  NoneBelow n = (fault : ParseFault) → HasCause read fault → n ≤ rank fault

  -- These are the tokens of the text that is read, all of whose bytes are words.
  pub record AreTokensOf (tokens : TextTokens) : Type 0 where
    pub pieces : List (Piece scale (names_among (words read)))
    pub written : words read ≡ words_by scale (names_among (words read)) pieces
    pub same : tokens.tokens ≡ tokens_by scale (names_among (words read)) pieces
    pub theirs : AreTheirs scale (names_among (words read)) pieces
    pub offsets : tokens.offsets ≡ map (λ one. one.0) read.placed
    pub size : tokens.size ≡ length text
    pub past : MatchOption (position is_past tokens.tokens)
        ((place : ℕ) → IsPastAt place → ⊥) (IsFirst IsPastAt)
    pub names : position is_past tokens.tokens ≡ None → tokens.names ≡ names_among (words read)
    pub below : NoneBelow 2
