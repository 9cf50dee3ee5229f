-- The raw tokens of a text as the scanner has them, and the tokens and names among them.
use Rattle.std.specs.Prelude.{ℕ, ◌+◌, ◌-◌, zero, suc, Option, Some, None, List, [], ◌∷◌, take}
use Rattle.tre_trace.specs.Reading.{Vocabulary}
use Rattle.tre_parse.specs.declared.token.Token.{Token}
use Rattle.tre_parse.specs.declared.lexeme.Lexeme.{Lexeme}
use Rattle.tre_parse.specs.declared.lexeme.Lexeme.TheVariants.{Blank, Wrong, Name, Number, Sign}
use Rattle.tre_parse.specs.Lexeme.{lexeme_of}
use Rattle.tre_parse.specs.Tokens.{RawToken, name, number, sign, RawTokenAt}
use Rattle.tre_parse.specs.Known.{nothing_known, tokens_from, names_from}

-- The raw tokens up to the first byte at which no token begins, and its offset, if there is one.
pub record RawTokens : Type 0 where
  pub raw_tokens : List RawTokenAt
  pub bad : Option ℕ

abbrev pub with_raw_token : ℕ → RawToken → RawTokens → RawTokens
with_raw_token at word rest =
    record { raw_tokens = (record { at = at; word = word }) ∷ rest.raw_tokens; bad = rest.bad }

-- What stands here, and then what comes after so many more bytes.
abbrev pub scanned : Lexeme → ℕ → List ℕ → (ℕ → RawTokens) → RawTokens
scanned Blank at bytes next = next 0
scanned Wrong at bytes next = record { raw_tokens = []; bad = Some at }
scanned (Name len) at bytes next = with_raw_token at (name (take len bytes)) (next (len - 1))
scanned (Number len) at bytes next = with_raw_token at (number (take len bytes)) (next (len - 1))
scanned (Sign token len) at bytes next = with_raw_token at (sign token) (next (len - 1))

-- The raw tokens of bytes at an offset, the first `skip` of which belong to the one before.
abbrev pub raw_tokens_from : ℕ → ℕ → List ℕ → RawTokens
raw_tokens_from skip at [] = record { raw_tokens = []; bad = None }
raw_tokens_from (suc skip) at (byte ∷ rest) = raw_tokens_from skip (at + 1) rest
raw_tokens_from zero at (byte ∷ rest) =
    scanned (lexeme_of (byte ∷ rest)) at (byte ∷ rest) (λ skip. raw_tokens_from skip (at + 1) rest)

abbrev pub raw_tokens_of : List ℕ → List RawTokenAt
raw_tokens_of text = (raw_tokens_from 0 0 text).raw_tokens

abbrev pub bad_byte : List ℕ → Option ℕ
bad_byte text = (raw_tokens_from 0 0 text).bad

abbrev pub names_of : List ℕ → Vocabulary
names_of text = names_from nothing_known (raw_tokens_of text)

abbrev pub tokens_of : ℕ → List ℕ → List Token
tokens_of scale text = tokens_from scale nothing_known (raw_tokens_of text)
