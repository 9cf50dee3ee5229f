-- The words of a text number its names by first use from the left.
use Rattle.std.proofs.Common.{◌≡◌, ℕ, ◌+◌, Bool, true, false, ◌&&◌, Option, Some, None, List, [], ◌∷◌, ◌++◌, length, refl, sym, ◌∙◌, ap, length-append, rules}
use Rattle.std.specs.Prelude.{nat_lt, if◌then◌else◌, is_none, unwrap_or}
use Rattle.std.specs.Option.{option_map}
use Rattle.tre_state.specs.declared.names.TheConstants.{NAMES_MAX}
use Rattle.tre_state.specs.Names.{place_of}
use Rattle.tre_state.proofs.Places.{place_of-push}
use Rattle.tre_syntax.specs.PatternTree.{seen_after}
use Rattle.tre_syntax.proofs.FirstUses.{seen_new}
use Rattle.tre_trace.specs.Reading.{Vocabulary}
use Rattle.tre_syntax.specs.declared.name_kind.NameKind.{NameKind}
use Rattle.tre_syntax.specs.declared.name_kind.NameKind.TheVariants.{Proposition, Event as EventKind}
use Rattle.tre_parse.specs.declared.token.Token.{Token}
use Rattle.tre_parse.specs.Tokens.{RawToken, name, event_name, number, sign, RawTokenAt}
use Rattle.tre_parse.specs.Scanned.{raw_tokens_of}
use Rattle.tre_parse.specs.Known.{kind_behind, names_of_kind, names_with, vocabulary_with, Known, nothing_known, numbered, next_token, vocabulary_after, known_after, tokens_from, names_from, past_from, word_is_past}
use Rattle.tre_parse.specs.Numbering.{numbers_in, IsNumberedByUse}
use Rattle.tre_parse.specs.ScannedOutcome.{offset_of, text_tokens_of}
use Rattle.tre_parse.proofs.Plain.{IsPlain, ArePlain, raw_tokens_plain}
use Rattle.tre_parse.proofs.Past.{past_run}

-- What the number of a name is, where it is not past the most.
name_seen : (known : List (List ℕ)) (bytes : List ℕ) (found : Option ℕ) (room : Bool)
    (rest : List ℕ) (m : ℕ) → place_of known bytes ≡ found →
    is_none (place_of (if is_none found && room then known ++ bytes ∷ [] else known) bytes) ≡ false
    →
    seen_after (length (if is_none found && room then known ++ bytes ∷ [] else known)) rest ≡ Some m
    →
    seen_after (length known) (unwrap_or (place_of (if is_none found && room then known ++ bytes ∷
    [] else known) bytes) NAMES_MAX ∷ rest) ≡ Some m
name_seen known bytes (Some i) room rest m f p e = search rules
name_seen known bytes None true rest m f p e =
    let pushed = place_of-push known bytes f in
    let size : length (known ++ bytes ∷ []) ≡ length known + 1 = length-append known (bytes ∷ []) in
    ap (λ (o : Option ℕ). seen_after (length known) (unwrap_or o NAMES_MAX ∷ rest)) pushed
    ∙ seen_new (length known) (length known) rest m refl
    (ap (λ n. seen_after n rest) (sym size) ∙ e)
name_seen known bytes None false rest m f p e = search rules

past_none : (is : Bool) (at : ℕ) (later : Option ℕ) → (if is then Some at else later) ≡ None
    → (is ≡ false) × (later ≡ None)
past_none true at later e = absurd (cc)
past_none false at later e = (refl, e)

-- The names of one kind, behind a name of this kind or of another.
kind_seen : (kind at : NameKind) (known : Vocabulary) (bytes : List ℕ) (rest : List Token) (m : ℕ) →
    is_none (place_of (names_with (names_of_kind at known) bytes) bytes) ≡ false →
    seen_after (length (names_of_kind kind (vocabulary_with at known bytes))) (numbers_in kind rest)
    ≡ Some m →
    seen_after (length (names_of_kind kind known)) (numbers_in kind (numbered at (unwrap_or
    (place_of (names_with (names_of_kind at known) bytes) bytes) NAMES_MAX) ∷ rest)) ≡ Some m
kind_seen Proposition Proposition known bytes rest m p e =
    name_seen known.names bytes (place_of known.names bytes) (nat_lt (length known.names) NAMES_MAX)
    (numbers_in Proposition rest) m refl p e
kind_seen EventKind EventKind known bytes rest m p e =
    name_seen known.events bytes (place_of known.events bytes)
    (nat_lt (length known.events) NAMES_MAX) (numbers_in EventKind rest) m refl p e
kind_seen Proposition EventKind known bytes rest m p e = e
kind_seen EventKind Proposition known bytes rest m p e = e

spot_numbered : (scale : ℕ) (kind : NameKind) (word : RawToken) (at : ℕ) (known : Known)
    (rest : List Token)
    (later : Option ℕ) (m : ℕ) → IsPlain word →
    (if word_is_past known word then Some at else later) ≡ None →
    (later ≡ None → seen_after (length (names_of_kind kind (vocabulary_after known word)))
    (numbers_in kind rest) ≡ Some m) →
    seen_after (length (names_of_kind kind known.vocabulary))
    (numbers_in kind (next_token scale known word ∷ rest)) ≡ Some m
spot_numbered scale kind (name bytes) at known rest later m h e go =
    search (rules, past_none, word_is_past, name, kind_seen, kind_behind, known.vocabulary)
spot_numbered scale kind (event_name bytes) at known rest later m h e go = absurd h
spot_numbered scale kind (number bytes) at known rest later m h e go = search rules
spot_numbered scale kind (sign token) at known rest later m h e go = search rules

numbered_from : (scale : ℕ) (kind : NameKind) (raw_tokens : List RawTokenAt) (known : Known)
    → ArePlain raw_tokens → past_from known raw_tokens ≡ None →
    seen_after (length (names_of_kind kind known.vocabulary))
    (numbers_in kind (tokens_from scale known raw_tokens))
    ≡ Some (length (names_of_kind kind (names_from known raw_tokens)))
numbered_from scale kind [] known h e = refl
numbered_from scale kind (raw ∷ rest) known h e =
    spot_numbered scale kind raw.word raw.at known
    (tokens_from scale (known_after known raw.word) rest)
    (past_from (known_after known raw.word) rest)
    (length (names_of_kind kind (names_from (known_after known raw.word) rest))) h.0 e
    (λ later. numbered_from scale kind rest (known_after known raw.word) h.1 later)

-- Nothing is known at the beginning, of either kind.
numbered_all : (scale : ℕ) (kind : NameKind) (raw_tokens : List RawTokenAt) → ArePlain raw_tokens
    → past_from nothing_known raw_tokens ≡ None →
    seen_after 0 (numbers_in kind (tokens_from scale nothing_known raw_tokens))
    ≡ Some (length (names_of_kind kind (names_from nothing_known raw_tokens)))
numbered_all scale Proposition raw_tokens h e = numbered_from _ Proposition _ nothing_known h e
numbered_all scale EventKind raw_tokens h e = numbered_from _ EventKind _ nothing_known h e

-- The words of a text are numbered by use.
pub text_numbered : (scale : ℕ) (text : List ℕ) → IsNumberedByUse (text_tokens_of scale text)
text_numbered scale text = λ e kind.
    let none = sym (past_run scale text) ∙ ap (option_map (offset_of (text_tokens_of scale text))) e in
    numbered_all scale kind (raw_tokens_of text) (raw_tokens_plain 0 0 text) none
