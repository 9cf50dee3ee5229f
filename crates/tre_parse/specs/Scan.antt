-- A scan: what is kept of the words read so far, against the words of the text.
use Rattle.std.specs.Prelude.{◌≡◌, ℕ, Result, Ok, Err, ◌≤◌, ◌<◌, ◌⊎◌, Some, None, List, [], ◌∷◌, ◌++◌, length, drop}
use Rattle.tre_state.specs.declared.names.NameFault.{NameFault}
use Rattle.tre_state.specs.declared.names.NameFault.TheVariants.{TooMany, Memory as Lacking}
use Rattle.tre_trace.specs.Reading.{Vocabulary}
use Rattle.tre_parse.specs.declared.fault.ParseFault.{ParseFault}
use Rattle.tre_parse.specs.declared.fault.ParseFault.TheVariants.{BadByte, Memory}
use Rattle.tre_parse.specs.declared.scan.Scan.{Scan}
use Rattle.tre_parse.specs.declared.token.TokenAt.{TokenAt}
use Rattle.tre_parse.specs.declared.token.Token.{Token}
use Rattle.tre_parse.specs.Tokens.{RawToken, RawTokenAt, name}
use Rattle.tre_parse.specs.Scanned.{RawTokens, raw_tokens_from, raw_tokens_of, bad_byte}
use Rattle.tre_parse.specs.Known.{Known, nothing_known, kind_behind, number_of, next_token, known_after, names_from}

-- The words from an offset on.
abbrev pub rest_from : List ℕ → ℕ → RawTokens
rest_from bytes at = raw_tokens_from 0 at (drop at bytes)

-- The names that a scan holds, and what it knows.
abbrev pub vocabulary_in : Scan → Vocabulary
vocabulary_in scan = record { names = scan.names; events = scan.events }

abbrev pub known_in : Scan → Known
known_in scan = record { vocabulary = vocabulary_in scan; before = scan.before }

-- Each word's token at a scale, with its offset.
abbrev pub placed : ℕ → Known → ℕ → RawToken → TokenAt
placed scale known at word = record { token = next_token scale known word; at = at }

abbrev pub placed_from : ℕ → Known → List RawTokenAt → List TokenAt
placed_from scale known [] = []
placed_from scale known (raw ∷ rest) =
    placed scale known raw.at raw.word ∷ placed_from scale (known_after known raw.word) rest

-- The scan after one more token.
pub record Puts (old new : Scan) (at : ℕ) (token : Token) : Type 0 where
  pub tokens : new.tokens.items ≡ old.tokens.items ++ record { token = token; at = at } ∷ []
  pub known : known_in new ≡ known_in old
  pub size : new.size ≡ old.size
  pub same_scale : new.scale ≡ old.scale

-- The scan once a name is among those of its kind.
pub record Numbers (old new : Scan) (bytes : List ℕ) : Type 0 where
  pub tokens : new.tokens.items ≡ old.tokens.items
  pub known : known_in new ≡ known_after (known_in old) (name bytes)
  pub size : new.size ≡ old.size
  pub same_scale : new.scale ≡ old.scale

abbrev pub ScanIsNumbered : Scan → Scan → List ℕ → Result ℕ NameFault → Type 0
ScanIsNumbered old new bytes (Ok number) =
    Numbers old new bytes
    × (number_of (kind_behind old.before) (known_in old) bytes ≡ Some number)
ScanIsNumbered old new bytes (Err TooMany) =
    Numbers old new bytes × (number_of (kind_behind old.before) (known_in old) bytes ≡ None)
ScanIsNumbered old new bytes (Err Lacking) = Unit {0}

-- The scan after one more word.
pub record TakesToken (old new : Scan) (at : ℕ) (word : RawToken) : Type 0 where
  pub tokens : new.tokens.items ≡ old.tokens.items ++ placed old.scale (known_in old) at word ∷ []
  pub known : known_in new ≡ known_after (known_in old) word
  pub size : new.size ≡ old.size
  pub same_scale : new.scale ≡ old.scale

-- From one offset the scan comes to the same in the end as from a later one.
pub record LeadsTo (bytes : List ℕ) (old : Scan) (at : ℕ) (new : Scan) (next : ℕ) : Type 0 where
  pub tokens : old.tokens.items ++ placed_from old.scale (known_in old)
      (rest_from bytes at).raw_tokens ≡ new.tokens.items ++ placed_from new.scale (known_in new)
      (rest_from bytes next).raw_tokens
  pub names : names_from (known_in old) (rest_from bytes at).raw_tokens ≡ names_from
      (known_in new) (rest_from bytes next).raw_tokens
  pub bad : (rest_from bytes at).bad ≡ (rest_from bytes next).bad
  pub size : new.size ≡ old.size
  pub same_scale : new.scale ≡ old.scale

-- One step of the scan: it goes on, or says at which byte no token begins.
pub record ScanGoesOn (bytes : List ℕ) (old : Scan) (at : ℕ) (new : Scan) (next : ℕ) : Type 0 where
  pub leads : LeadsTo bytes old at new next
  pub further : at < next
  pub within : next ≤ length bytes

abbrev pub IsBadByte : List ℕ → ℕ → ParseFault → Type 0
IsBadByte bytes at fault =
    (fault ≡ Memory) ⊎ ((at' : ℕ) × (fault ≡ BadByte at') × ((rest_from bytes at).bad ≡ Some at'))

-- The scan of a whole text at a scale.
pub record IsScan (scale : ℕ) (text : List ℕ) (scan : Scan) : Type 0 where
  pub tokens : scan.tokens.items ≡ placed_from scale nothing_known (raw_tokens_of text)
  pub names : vocabulary_in scan ≡ names_from nothing_known (raw_tokens_of text)
  pub good : bad_byte text ≡ None
  pub size : scan.size ≡ length text
