-- A token that is printed is read as that token, before what can stand behind it; and so the text
-- of tokens is read back, its names as the ones that were printed.
use Rattle.std.proofs.Common.{◌≡◌, ℕ, suc, ◌+◌, ◌-◌, ◌<◌, ◌≤◌, ◌^◌, true, false, cond, ◌&&◌, ◌⊎◌, ⊎_elim, arith, rules}
use Rattle.std.proofs.Common.{Option, Some, None, List, [], ◌∷◌, ◌++◌, length, get_or, take, refl, sym, ap, ◌∙◌, subst, arith}
use Rattle.std.specs.Prelude.{codes, nat_lt, is_none, is_some, if◌then◌else◌}
use Rattle.std.specs.Char.{is_ascii_digit}
use Rattle.std.specs.List.{AllPass, list_all, position_or_len, zip}
use Rattle.std.specs.Str.{bytes_eq}
use Rattle.std.proofs.Math.Seq.{take-append_seam, take-suc}
use Rattle.std.proofs.lemmas.Bool.{false_from_ne_true}
use Rattle.std.proofs.lemmas.Bool.Decides.{nat_tests}
use Rattle.std.proofs.lemmas.List.{get_or-take, length-take-le, take_all}
use Rattle.std.proofs.lemmas.List.Elements.{All-cons}
use Rattle.std.proofs.lemmas.List.Sums.{AllPass-from_list_all, position_or_len_is}
use Rattle.std.proofs.lemmas.Map.Made.{is_some-lookup}
use Rattle.std.proofs.lemmas.Option.{unwrap_or-slice_get}
use Rattle.std.proofs.lemmas.Slice.Eq.{bytes_eq-Decides}
use Rattle.tre_decimal.specs.Decimal.{units_of, number_text}
use Rattle.tre_state.specs.declared.name.TheConstants.{RESERVED}
use Rattle.tre_state.specs.Name.{starts_name, continues_name, IsName}
use Rattle.tre_state.specs.Names.{place_of, IsNameList}
use Rattle.tre_trace.specs.Reading.{Vocabulary}
use Rattle.tre_syntax.specs.declared.name_kind.NameKind.{NameKind}
use Rattle.tre_syntax.specs.declared.name_kind.NameKind.TheVariants.{Proposition, Event as EventKind}
use Rattle.tre_syntax.specs.PatternTree.{seen_after}
use Rattle.tre_parse.specs.declared.token.Token.{Token}
use Rattle.tre_parse.specs.declared.token.Token.TheVariants.{Name, EventName, Number, Bar, DoubleBar, Ampersand, DoubleAmpersand, Percent, Begins, Ends, Eps, Rise, Fall, Inf, True, Event, EndOfText}
use Rattle.tre_parse.specs.Lexeme.{lexeme_named, word_lexeme, number_len, number_lexeme, sign_lexeme, lexeme_of, reserved}
use Rattle.tre_parse.specs.Words.{is_white_space}
use Rattle.tre_parse.specs.declared.before.Before.{Before}
use Rattle.tre_parse.specs.declared.before.Before.TheVariants.{Other}
use Rattle.tre_parse.specs.Numbering.{numbers_in}
use Rattle.tre_parse.specs.Tokens.{RawToken, name, number, sign}
use Rattle.tre_parse.specs.Scanned.{RawTokens, raw_tokens_from, scanned, with_raw_token}
use Rattle.tre_parse.specs.Known.{kind_behind, before_sign, names_with, vocabulary_with, Known, number_of, numbered, next_token, known_after, word_is_past, tokens_from, names_from, past_from}
use Rattle.tre_show.specs.StateText.{name_text}
use Rattle.tre_show.proofs.TreeTokens.{printed, text_of, IsCut, StandsHere, StandFrom}
use Rattle.tre_show.proofs.Written.{WritesNumbers, prefix_whole, cut_stops, written_len, units_read}

-- The text has this word first, and goes on with the rest.
abbrev pub Takes : RawToken → ℕ → List ℕ → List ℕ → Type 0
Takes word at text rest =
    (there : ℕ) × (next : ℕ) × (raw_tokens_from 0 at text
    ≡ with_raw_token there word (raw_tokens_from 0 next rest))

-- ---- words and numbers

-- the bytes of a word that is skipped
skipped : (xs rest : List ℕ) (at : ℕ) → (next : ℕ) ×
    (raw_tokens_from (length xs) at (xs ++ rest) ≡ raw_tokens_from 0 next rest)
skipped [] rest at = (at, refl)
skipped (x ∷ xs) rest at = skipped xs rest (at + 1)

-- what a word is, where it is one of the reserved ones
abbrev word_for : List ℕ → Option Token → RawToken
word_for bytes None = name bytes
word_for bytes (Some token) = sign token

-- What stands there is a word of just these bytes.
takes_front : (byte : ℕ) (bytes rest : List ℕ) (word : RawToken) (at : ℕ)
    → ((next : ℕ → RawTokens)
    → scanned (lexeme_of (byte ∷ (bytes ++ rest))) at (byte ∷ (bytes ++ rest)) next
    ≡ with_raw_token at word (next (length bytes)))
    → Takes word at (byte ∷ (bytes ++ rest)) rest
takes_front byte bytes rest word at is =
    let next = λ (skip : ℕ). raw_tokens_from skip (at + 1) (bytes ++ rest) in
    let end = skipped bytes rest (at + 1) in
    (at, end.0, is next ∙ ap (with_raw_token at word) end.1)

-- A word that is taken is a name or a reserved one.
scanned_named : (len : ℕ) (o : Option Token) (at : ℕ) (bytes : List ℕ) (next : ℕ → RawTokens)
    → scanned (lexeme_named len o) at bytes next ≡ with_raw_token at (word_for (take len bytes) o)
    (next (len - 1))
scanned_named len None at bytes next = refl
scanned_named len (Some token) at bytes next = refl

scanned_word : (byte : ℕ) (bytes rest : List ℕ) (o : Option Token) (at : ℕ) (next : ℕ → RawTokens)
    → scanned (lexeme_named (length (byte ∷ bytes)) o) at (byte ∷ (bytes ++ rest)) next
    ≡ with_raw_token at (word_for (byte ∷ bytes) o) (next (length bytes))
scanned_word byte bytes rest o at next =
    search (rules, scanned_named, next, with_raw_token, take-append_seam)

-- A number that is taken.
scanned_number : (byte : ℕ) (bytes rest : List ℕ) (at : ℕ) (next : ℕ → RawTokens)
    → number_len (byte ∷ (bytes ++ rest)) ≡ length (byte ∷ bytes)
    → scanned (number_lexeme (byte ∷ (bytes ++ rest))) at (byte ∷ (bytes ++ rest)) next
    ≡ with_raw_token at (number (byte ∷ bytes)) (next (length bytes))
scanned_number byte bytes rest at next len =
    search (rules, with_raw_token, number, next, take-append_seam)

-- which of the kinds the first byte chooses
kind_word : {A : Type 0} (byte : ℕ) (a b c : A) → starts_name byte ≡ true
    → (if is_white_space byte then a else (if starts_name byte then b else c)) ≡ b
kind_word byte a b c starts = search rules

kind_number : {A : Type 0} (byte : ℕ) (a b c d : A) → is_ascii_digit byte ≡ true
    → (if is_white_space byte then a else (if starts_name byte then b
    else (if is_ascii_digit byte then c else d))) ≡ c
kind_number byte a b c d digit = search rules

start_continues : (byte : ℕ) → starts_name byte ≡ true → continues_name byte ≡ true
start_continues byte starts = grind (arith, nat_tests)

takes_word : (byte : ℕ) (bytes rest : List ℕ) (at : ℕ) → starts_name byte ≡ true
    → AllPass continues_name bytes → IsCut rest
    → Takes (word_for (byte ∷ bytes) (reserved (byte ∷ bytes))) at (byte ∷ (bytes ++ rest)) rest
takes_word byte bytes rest at starts all cut =
    let whole = byte ∷ bytes in
    let size = prefix_whole continues_name whole rest
    (All-cons (λ b. continues_name b ≡ true) byte bytes (start_continues byte starts) all)
    (cut_stops continues_name rest (λ b fails. fails) cut) in
    let lexeme = kind_word byte _ (word_lexeme (whole ++ rest)) _ starts
    ∙ ap (λ n. lexeme_named n (reserved (take n (whole ++ rest)))) size
    ∙ ap (λ w. lexeme_named (length whole) (reserved w)) (take-append_seam whole rest) in
    takes_front byte bytes rest (word_for whole (reserved whole)) at
    (λ next. ap (λ l. scanned l at (whole ++ rest) next) lexeme
    ∙ scanned_word byte bytes rest (reserved whole) at next)

no_word : (o : Option Token) → (is_some o ≡ true → ⊥) → o ≡ None
no_word None never = refl
no_word (Some token) never = absurd (never refl)

takes_name : (bytes rest : List ℕ) (at : ℕ) → IsName bytes → IsCut rest
    → Takes (name bytes) at (bytes ++ rest) rest
takes_name [] rest at is cut = absurd is.0
takes_name (b ∷ bs) rest at is cut =
    let bytes = b ∷ bs in
    let kept = zip RESERVED (Eps ∷ Rise ∷ Fall ∷ Inf ∷ True ∷ Event ∷ []) in
    subst (λ o. Takes (word_for bytes o) at (bytes ++ rest) rest)
    (no_word (reserved bytes)
    (λ some. is.1 (sym (is_some-lookup (λ text. bytes_eq text.now bytes) kept) ∙ some)))
    (takes_word b bs rest at is.0.0 is.0.1 cut)

-- A number up to the latest time.
takes_number : (scale n : ℕ) (rest : List ℕ) (at : ℕ) → WritesNumbers scale → n ≤ 2 ^ 40
    → IsCut rest → Takes (number (number_text scale n)) at (number_text scale n ++ rest) rest
takes_number scale n rest at writes small cut =
    let less : n < 2 ^ 64 = omega (arith, small) in
    by (number_text scale n) (writes.read_back n less) (written_len scale n rest writes less cut)
  where
    by : (text : List ℕ) → units_of scale text ≡ Some n → number_len (text ++ rest) ≡ length text
        → Takes (number text) at (text ++ rest) rest
    by [] is len = absurd (cc)
    by (d ∷ ds) is len =
        let whole = d ∷ (ds ++ rest) in
        let lexeme = kind_number d _ (word_lexeme whole) (number_lexeme whole)
        (sign_lexeme whole) (writes.begins d n ds is) in
        takes_front d ds rest (number (d ∷ ds)) at
        (λ next. ap (λ l. scanned l at whole next) lexeme ∙ scanned_number d ds rest at next len)

-- ---- the table

kept : (byte : ℕ) (bytes rest : List ℕ) (at : ℕ) → starts_name byte ≡ true
    → list_all continues_name bytes ≡ true → IsCut rest
    → Takes (word_for (byte ∷ bytes) (reserved (byte ∷ bytes))) at (byte ∷ (bytes ++ rest)) rest
kept byte bytes rest at starts all cut =
    takes_word byte bytes rest at starts (AllPass-from_list_all continues_name bytes all) cut

-- A token as a word of the text: a name or a number by its bytes.
abbrev pub word_of : ℕ → Vocabulary → Token → RawToken
word_of scale names (Name i) = name (name_text names.names i)
word_of scale names (EventName i) = name (name_text names.events i)
word_of scale names (Number n) = number (number_text scale n)
word_of scale names token = sign token

-- Where the token is the number of a name, that is one.
abbrev pub IsNamed : Vocabulary → Token → Type 0
IsNamed names (Name i) = IsName (name_text names.names i)
IsNamed names (EventName i) = IsName (name_text names.events i)
IsNamed names _ = Unit {0}

-- Each token by its line of the table, and the names and numbers besides.
pub takes : (scale : ℕ) → WritesNumbers scale → (names : Vocabulary) (before : Before)
    (token : Token) (rest : List Token) (at : ℕ)
    → StandsHere scale names before rest token → IsNamed names token
    → Takes (word_of scale names token) at (printed scale names token ++ text_of scale names rest)
    (text_of scale names rest)
takes scale writes names before (Name i) rest at stands is =
    takes_name (name_text names.names i) (text_of scale names rest) at is stands.0
takes scale writes names before (EventName i) rest at stands is =
    takes_name (name_text names.events i) (text_of scale names rest) at is stands.0
takes scale writes names before (Number n) rest at stands is =
    takes_number scale n (text_of scale names rest) at writes stands.0 stands.1
takes scale writes names before Eps rest at stands is = kept 101 (codes "ps") _ at refl refl stands
takes scale writes names before Rise rest at stands is =
    kept 114 (codes "ise") _ at refl refl stands
takes scale writes names before Fall rest at stands is =
    kept 102 (codes "all") _ at refl refl stands
takes scale writes names before Inf rest at stands is = kept 105 (codes "nf") _ at refl refl stands
takes scale writes names before True rest at stands is =
    kept 116 (codes "rue") _ at refl refl stands
takes scale writes names before Event rest at stands is =
    kept 101 (codes "vent") _ at refl refl stands
takes scale writes names before Bar rest at stands is = (at + 1, at + 1 + 1 + 1, refl)
takes scale writes names before DoubleBar rest at stands is = (at + 1, at + 1 + 1 + 1 + 1, refl)
takes scale writes names before Ampersand rest at stands is = (at + 1, at + 1 + 1 + 1, refl)
takes scale writes names before DoubleAmpersand rest at stands is =
    (at + 1, at + 1 + 1 + 1 + 1, refl)
takes scale writes names before Percent rest at stands is = (at + 1, at + 1 + 1 + 1, refl)
takes scale writes names before Begins rest at stands is = (at, at + 1 + 1, refl)
takes scale writes names before Ends rest at stands is = (at, at + 1 + 1, refl)
takes scale writes names before EndOfText rest at stands is = absurd stands
takes scale writes names before mark rest at stands is = (at, at + 1, refl)

-- ---- numbers by first use

-- The first number is one that was seen, or the next one.
pub first_number : (seen i : ℕ) (rest : List ℕ) (m : ℕ) → seen_after seen (i ∷ rest) ≡ Some m
    → ((i < seen) × (seen_after seen rest ≡ Some m))
    ⊎ ((i ≡ seen) × (seen_after (seen + 1) rest ≡ Some m))
first_number seen i rest m e = search rules

pub seen_grows : (xs : List ℕ) (seen m : ℕ) → seen_after seen xs ≡ Some m → seen ≤ m
seen_grows [] seen m e = let same : seen ≡ m = cc in omega arith
seen_grows (i ∷ rest) seen m e = ⊎_elim (λ old. seen_grows rest seen m old.1)
    (λ new. let more = seen_grows rest (seen + 1) m new.1 in omega (arith, more))
    (first_number seen i rest m e)

-- ---- the numbers that a text gives its names

module _ (names : List (List ℕ)) (list : IsNameList names) where
  bytes_of : (i : ℕ) → name_text names i ≡ get_or names i []
  bytes_of i = unwrap_or-slice_get names i []

  pub name_at : (i : ℕ) → i < length names → IsName (name_text names i)
  name_at i below = subst IsName (sym (bytes_of i)) (list.each i [] below)

  -- a name is no earlier one
  differ : (i j : ℕ) → j < i → i < length names
      → bytes_eq (name_text names i) (get_or names j []) ≡ false
  differ i j before below =
      search (rules, false_from_ne_true, before, bytes_eq-Decides, name_text, bytes_of)

  -- The first names have a name at its own place, and before that place not.
  placed : (i k : ℕ) → i ≤ k → i < length names → k ≤ length names
      → place_of (take k names) (name_text names i) ≡ cond (nat_lt i k) (Some i) None
  placed i k within below fits =
      let size = length-take-le k names fits in
      let bytes = name_text names i in
      let at = λ (j : ℕ) (before : j < k). get_or-take k names j [] before in
      let here : i < k → bytes_eq bytes (get_or (take k names) i []) ≡ true = λ inside.
      rw (at i inside) ((bytes_eq-Decides bytes (get_or names i [])).1 (bytes_of i)) in
      let place : position_or_len (bytes_eq bytes) (take k names) ≡ i =
      position_or_len_is (bytes_eq bytes) (take k names) i [] (omega (arith, size, within))
      (λ j before. rw (at j (omega (arith, before, within))) (differ i j before below))
      (λ inside. here (omega (arith, size, inside))) in
      ap (λ n. cond (nat_lt n (length (take k names))) (Some n) None) place
      ∙ ap (λ n. cond (nat_lt i n) (Some i) None) size

  pub held : (i k : ℕ) → i < k → k ≤ length names → place_of (take k names) (name_text names i) ≡ Some i
  held i k before fits =
      let inside : nat_lt i k ≡ true = grind (arith, nat_tests) in
      placed i k (omega (arith, before)) (omega (arith, before, fits)) fits
      ∙ ap (λ b. cond b (Some i) None) inside

  -- a name that was read already
  known_old : (i k : ℕ) → i < k → k ≤ length names
      → names_with (take k names) (name_text names i) ≡ take k names
  known_old i k before fits =
      ap (λ (o : Option ℕ). if is_none o && nat_lt (length (take k names)) 64
      then take k names ++ name_text names i ∷ [] else take k names) (held i k before fits)

  -- a new one
  known_new : (k : ℕ) → k < length names
      → names_with (take k names) (name_text names k) ≡ take (k + 1) names
  known_new k below =
      let few = list.few in
      let size = length-take-le k names (omega (arith, below)) in
      let none : nat_lt k k ≡ false = grind (arith, nat_tests) in
      let room : nat_lt (length (take k names)) 64 ≡ true = grind (arith, nat_tests) in
      let more : k + 1 ≡ suc k = omega arith in
      let bytes = name_text names k in
      let added = take k names ++ bytes ∷ [] in
      ap (λ (o : Option ℕ). if is_none o && nat_lt (length (take k names)) 64
      then added else take k names)
      (placed k k (omega arith) below (omega (arith, below)) ∙ ap (λ b. cond b (Some k) None) none)
      ∙ ap (λ b. if b then added else take k names) room
      ∙ ap (λ b. take k names ++ b ∷ []) (bytes_of k)
      ∙ sym (ap (λ n. take n names) more ∙ take-suc names k [] below)

  -- One number that was read in order: with its name so many are known, and the rest is in order.
  record IsNext (k i : ℕ) (rest : List ℕ) : Type 0 where
    next : ℕ
    fits : next ≤ length names
    before : i < next
    known : names_with (take k names) (name_text names i) ≡ take next names
    left : seen_after next rest ≡ Some (length names)

  next_of : (k i : ℕ) (rest : List ℕ) → k ≤ length names
      → seen_after k (i ∷ rest) ≡ Some (length names) → IsNext k i rest
  next_of k i rest within e = ⊎_elim
      (λ old. record {
        next = k;
        fits = within;
        before = old.0;
        known = known_old i k old.0 within;
        left = old.1;
      })
      (λ new.
      let more = seen_grows rest (k + 1) (length names) new.1 in
      let first = new.0 in
      record {
        next = k + 1;
        fits = more;
        before = omega (arith, first);
        known = subst (λ j. names_with (take k names) (name_text names j) ≡ take (k + 1) names)
            (sym first) (known_new k (omega (arith, more)));
        left = new.1;
      })
      (first_number k i rest (length names) e)

-- What is read of the tokens, where so much is known.
pub record AreRead (scale : ℕ) (names : Vocabulary) (known : Known) (tokens : List Token)
    (raw : RawTokens) : Type 0 where
  pub tokens_same : tokens_from scale known raw.raw_tokens ≡ tokens
  pub names_same : names_from known raw.raw_tokens ≡ names
  pub few : past_from known raw.raw_tokens ≡ None
  pub good : raw.bad ≡ None

-- A word whose token is this one, and behind which this much is known.
record IsWordOf (scale : ℕ) (known next : Known) (token : Token) (word : RawToken) : Type 0 where
  token_same : next_token scale known word ≡ token
  next_same : known_after known word ≡ next
  few : word_is_past known word ≡ false

-- A name in its place, of this kind.
named_word : (scale : ℕ) (kind : NameKind) (known : Known) (bytes : List ℕ) (i : ℕ)
    (after : Vocabulary) → kind_behind known.before ≡ kind → number_of kind known bytes ≡ Some i
    → vocabulary_with kind known.vocabulary bytes ≡ after
    → IsWordOf scale known (record { vocabulary = after; before = Other }) (numbered kind i)
    (name bytes)
named_word scale kind known bytes i after is place vocabulary = search rules

module _ (scale : ℕ) (writes : WritesNumbers scale) (names : Vocabulary)
    (list : IsNameList names.names) (events : IsNameList names.events)
  where
    -- A token by its word, and then the rest.
    word_read : (known next : Known) (token : Token) (word : RawToken) (rest : List Token)
        (there : ℕ) (raw : RawTokens) → IsWordOf scale known next token word
        → AreRead scale names next rest raw
        → AreRead scale names known (token ∷ rest) (with_raw_token there word raw)
    word_read known next token word rest there raw is more =
        let after : AreRead scale names (known_after known word) rest raw =
        subst (λ (k : Known). AreRead scale names k rest raw) (sym is.next_same) more in
        record {
          tokens_same = ap (λ t. t ∷ tokens_from scale (known_after known word) raw.raw_tokens)
              is.token_same ∙ ap (λ ts. token ∷ ts) after.tokens_same;
          names_same = after.names_same;
          few = ap (λ b. if b then Some there
              else past_from (known_after known word) raw.raw_tokens) is.few ∙ after.few;
          good = after.good;
        }

    -- The first names of each kind are known.
    abbrev first_known : ℕ → ℕ → Before → Known
    first_known k m before = record {
      vocabulary = record { names = take k names.names; events = take m names.events };
      before = before;
    }

    pub all_read : (tokens : List Token) (k m : ℕ) (before : Before) (at : ℕ)
        → StandFrom scale names before tokens → k ≤ length names.names → m ≤ length names.events
        → seen_after k (numbers_in Proposition tokens) ≡ Some (length names.names)
        → seen_after m (numbers_in EventKind tokens) ≡ Some (length names.events)
        → AreRead scale names (first_known k m before) tokens
        (raw_tokens_from 0 at (text_of scale names tokens))
    all_read [] k m before at stand within fits e f =
        let same : k ≡ length names.names = cc in
        let same_events : m ≡ length names.events = cc in
        let all = take_all k names.names (omega (arith, same)) in
        let all_events = take_all m names.events (omega (arith, same_events)) in
        record {
          tokens_same = refl;
          names_same = ap (λ l. record { names = l; events = take m names.events }) all
              ∙ ap (λ l. record { names = names.names; events = l }) all_events;
          few = refl;
          good = refl;
        }
    all_read (Name i ∷ rest) k m before at stand within fits e f =
        let more = next_of names.names list k i (numbers_in Proposition rest) within e in
        let bytes = name_text names.names i in
        let is = name_at names.names list i (omega (arith, more.before, more.fits)) in
        let read = takes scale writes names before (Name i) rest at stand.0 is in
        let known = first_known k m before in
        let place : number_of Proposition known bytes ≡ Some i =
        ap (λ l. place_of l bytes) more.known
        ∙ held names.names list i more.next more.before more.fits in
        let word = named_word scale Proposition known bytes i
        (record { names = take more.next names.names; events = take m names.events }) stand.0.1
        place
        (ap (λ l. record { names = l; events = take m names.events }) more.known) in
        subst (AreRead scale names known (Name i ∷ rest)) (sym read.2)
        (word_read known (first_known more.next m Other) (Name i) (name bytes) rest read.0 _ word
        (all_read rest more.next m Other read.1 stand.1 more.fits fits more.left f))
    all_read (EventName i ∷ rest) k m before at stand within fits e f =
        let more = next_of names.events events m i (numbers_in EventKind rest) fits f in
        let bytes = name_text names.events i in
        let is = name_at names.events events i (omega (arith, more.before, more.fits)) in
        let read = takes scale writes names before (EventName i) rest at stand.0 is in
        let known = first_known k m before in
        let place : number_of EventKind known bytes ≡ Some i =
        ap (λ l. place_of l bytes) more.known
        ∙ held names.events events i more.next more.before more.fits in
        let word = named_word scale EventKind known bytes i
        (record { names = take k names.names; events = take more.next names.events }) stand.0.1
        place
        (ap (λ l. record { names = take k names.names; events = l }) more.known) in
        subst (AreRead scale names known (EventName i ∷ rest)) (sym read.2)
        (word_read known (first_known k more.next Other) (EventName i) (name bytes) rest read.0 _
        word
        (all_read rest k more.next Other read.1 stand.1 within more.fits e more.left))
    all_read (Number n ∷ rest) k m before at stand within fits e f =
        let bytes = number_text scale n in
        let read = takes scale writes names before (Number n) rest at stand.0 tt in
        let known = first_known k m before in
        let word : IsWordOf scale known (first_known k m Other) (Number n) (number bytes) =
        record {
          token_same = ap Number (units_read scale n writes stand.0.0);
          next_same = refl;
          few = refl;
        } in
        subst (AreRead scale names known (Number n ∷ rest)) (sym read.2)
        (word_read known (first_known k m Other) (Number n) (number bytes) rest read.0 _ word
        (all_read rest k m Other read.1 stand.1 within fits e f))
    all_read (token ∷ rest) k m before at stand within fits e f =
        let read = takes scale writes names before token rest at stand.0 tt in
        let known = first_known k m before in
        let word : IsWordOf scale known (first_known k m (before_sign before token)) token
        (sign token) =
        record { token_same = refl; next_same = refl; few = refl } in
        subst (AreRead scale names known (token ∷ rest)) (sym read.2)
        (word_read known (first_known k m (before_sign before token)) token (sign token) rest read.0
        _ word
        (all_read rest k m (before_sign before token) read.1 stand.1 within fits e f))
