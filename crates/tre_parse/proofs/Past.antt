-- The first name past the first NAMES_MAX of its kind, among the tokens and in the words.
use Rattle.std.proofs.Common.{◌≡◌, ℕ, ◌+◌, ◌-◌, ◌<◌, ◌≤◌, zero, suc, Bool, true, false, cond, not, ◌&&◌, inl, inr, Option, Some, None, List, [], ◌∷◌, ◌++◌, length, map, take, refl, sym, ◌∙◌, ap, subst, arith, length-append}
use Rattle.std.specs.Prelude.{nat_lt, if◌then◌else◌, is_none, unwrap_or, position, filter, slice_index_or, MatchOption}
use Rattle.std.specs.Option.{option_map}
use Rattle.std.specs.List.{position_or_len}
use Rattle.std.specs.Str.{bytes_eq}
use Rattle.std.proofs.lemmas.Bool.{false≢true}
use Rattle.std.proofs.lemmas.Bool.Decides.{nat_tests}
use Rattle.std.proofs.lemmas.List.{take-map}
use Rattle.std.proofs.lemmas.List.Quantifiers.{position-Some}
use Rattle.tre_state.specs.declared.names.TheConstants.{NAMES_MAX}
use Rattle.tre_state.specs.Names.{place_of}
use Rattle.tre_state.proofs.Places.{place_of-push}
use Rattle.tre_syntax.specs.declared.name_kind.NameKind.{NameKind}
use Rattle.tre_syntax.specs.declared.name_kind.NameKind.TheVariants.{Proposition, Event as EventKind}
use Rattle.tre_parse.specs.declared.token.Token.{Token}
use Rattle.tre_parse.specs.declared.token.Token.TheVariants.{Name as Numbered, EventName, Number as Units}
use Rattle.tre_parse.specs.declared.before.Before.{Before}
use Rattle.tre_parse.specs.declared.before.Before.TheVariants.{EventWord, EventParen, Other}
use Rattle.tre_parse.specs.Tokens.{RawToken, name as raw_name, event_name as raw_event, number as raw_number, sign as raw_sign, RawTokenAt}
use Rattle.tre_parse.specs.Words.{Words, first_uses, names_among}
use Rattle.tre_parse.specs.Scanned.{raw_tokens_of, names_of, tokens_of}
use Rattle.tre_parse.specs.Known.{before_next, kind_behind, names_of_kind, names_with, Known, nothing_known, numbered, next_token, vocabulary_after, known_after, tokens_from, word_is_past, past_from, offsets_of}
use Rattle.tre_parse.specs.TokenWords.{WordAt, word_at}
use Rattle.tre_parse.specs.Limits.{is_past}
use Rattle.tre_parse.specs.Outcome.{HasPast, IsFirst}
use Rattle.tre_parse.specs.ScannedOutcome.{text_tokens_of}
use Rattle.tre_parse.specs.Numbering.{past_of}
use Rattle.tre_parse.proofs.Plain.{IsNoName, IsPlain, ArePlain, raw_tokens_plain}
use Rattle.tre_parse.proofs.NameNumbers.{kind_by}
use Rattle.tre_parse.proofs.Named.{texts, plain_take, is_own, used, uses, own_names, fresh, one_less, none_less, none_fresh, fresh_with, fresh_same, filter_both, filter_all, nothing_of, all_of, names_all, names_first, words_of}

-- ---- the first name past the first NAMES_MAX

abbrev AreFew : Known → Type 0
AreFew known = (kind : NameKind) → length (names_of_kind kind known.vocabulary) ≤ NAMES_MAX

nothing_few : AreFew nothing_known
nothing_few Proposition = omega arith
nothing_few EventKind = omega arith

few_with : (known : List (List ℕ)) (bytes : List ℕ) → length known ≤ NAMES_MAX
    → length (names_with known bytes) ≤ NAMES_MAX
few_with known bytes le = by (is_none (place_of known bytes))
    (nat_lt (length known) NAMES_MAX) refl
  where
    by : (none room : Bool) → nat_lt (length known) NAMES_MAX ≡ room
        → length (if none && room then known ++ bytes ∷ [] else known) ≤ NAMES_MAX
    by true true e = let size = length-append known (bytes ∷ []) in grind (arith, nat_tests)
    by true false e = le
    by false room e = le

few_after : (known : Known) (word : RawToken) → AreFew known → AreFew (known_after known word)
few_after known (raw_name bytes) h = λ kind.
    let names = names_of_kind kind known.vocabulary in
    kind_by (λ l. length l ≤ NAMES_MAX) kind (kind_behind known.before) known.vocabulary bytes
    (h kind) (few_with names bytes (h kind))
few_after known (raw_event bytes) h = h
few_after known (raw_number bytes) h = h
few_after known (raw_sign token) h = h

number_past : (kind : NameKind) (place : Option ℕ) → ((i : ℕ) → place ≡ Some i → i < NAMES_MAX)
    → is_past (numbered kind (unwrap_or place NAMES_MAX)) ≡ is_none place
number_past Proposition None below = refl
number_past EventKind None below = refl
number_past Proposition (Some i) below = let less = below i refl in grind (arith, nat_tests)
number_past EventKind (Some i) below = let less = below i refl in grind (arith, nat_tests)

sign_past : (token : Token) → IsNoName token → is_past token ≡ false
sign_past (Numbered i) h = absurd h
sign_past (EventName i) h = absurd h
sign_past (Units n) h = absurd h
sign_past _ h = refl

word_past : (scale : ℕ) (known : Known) (word : RawToken) → AreFew known → IsPlain word
    → is_past (next_token scale known word) ≡ word_is_past known word
word_past scale known (raw_name bytes) few h =
    let kind = kind_behind known.before in
    let names = names_with (names_of_kind kind known.vocabulary) bytes in
    number_past kind (place_of names bytes) (λ i e.
    let less = (position-Some (bytes_eq bytes) names i [] e).0 in
    let le = few_with (names_of_kind kind known.vocabulary) bytes (few kind) in
    omega (arith, less, le))
word_past scale known (raw_event bytes) few h = absurd h
word_past scale known (raw_number bytes) few h = refl
word_past scale known (raw_sign token) few h = sign_past token h

-- The first place that passes, where the first element is looked at.
position_first : {X : Type 0} (p : X → Bool) (x : X) (xs : List X) → position p (x ∷ xs)
    ≡ (if p x then Some 0 else option_map suc (position p xs))
position_first p x xs = by (p x)
  where
    next : (is : Bool) (n : ℕ) → cond is (Some (1 + n)) None
        ≡ option_map suc (cond is (Some n) None)
    next true n = let e : 1 + n ≡ suc n = omega arith in ap (λ m. Some m) e
    next false n = refl

    by : (is : Bool) → cond (nat_lt (cond (not is) (1 + position_or_len p xs) 0)
        (suc (length xs))) (Some (cond (not is) (1 + position_or_len p xs) 0)) None
        ≡ (if is then Some 0 else option_map suc (position p xs))
    by true = ap (λ less. cond less (Some 0) None) (none_less (length xs))
    by false = ap (λ less. cond less (Some (1 + position_or_len p xs)) None)
        (one_less (position_or_len p xs) (length xs)
        (nat_lt (position_or_len p xs) (length xs)) refl)
        ∙ next (nat_lt (position_or_len p xs) (length xs)) (position_or_len p xs)

-- How many names there are with those that are used.
abbrev count : Words → Words → ℕ
count known more = length known + length (filter (fresh known) (first_uses more))

count_name : (known : Words) (bytes : List ℕ) (more : Words)
    → count known (bytes ∷ more)
    ≡ count (cond (fresh known bytes) (known ++ bytes ∷ []) known) more
count_name known bytes more = by (fresh known bytes) refl
  where
    others : Words
    others = filter (λ other. not (bytes_eq other bytes)) (first_uses more)

    by : (is : Bool) → fresh known bytes ≡ is
        → length known + length (cond is (bytes ∷ filter (fresh known) others)
        (filter (fresh known) others)) ≡ count (cond is (known ++ bytes ∷ []) known) more
    by true e =
        let same = ap length (filter_both (fresh known) (λ other. not (bytes_eq other bytes))
        (fresh (known ++ bytes ∷ [])) (λ other. fresh_with known bytes other) (first_uses more)) in
        omega (arith, same, length-append known (bytes ∷ []))
    by false e =
        let same = ap length (filter_both (fresh known) (λ other. not (bytes_eq other bytes))
        (fresh known) (λ other. fresh_same known bytes other e) (first_uses more)) in
        omega (arith, same)

none_of : (found : Option ℕ) → is_none found ≡ true → found ≡ None
none_of None e = refl
none_of (Some n) e = absurd (false≢true e)

abbrev MatchPast : Bool → Words → List ℕ → Bool → Bool → Type 0
MatchPast true known bytes none room = (none ≡ true) × (NAMES_MAX ≤ length known)
MatchPast false known bytes none room =
    (if none && room then known ++ bytes ∷ [] else known) ≡ cond none (known ++ bytes ∷ []) known

-- Where a name finds no place, there are as many as there can be; else it is among them.
put_by : (known : Words) (bytes : List ℕ) (none room : Bool)
    → is_none (place_of known bytes) ≡ none → nat_lt (length known) NAMES_MAX ≡ room
    → (past : Bool)
    → is_none (place_of (if none && room then known ++ bytes ∷ [] else known) bytes) ≡ past
    → MatchPast past known bytes none room
put_by known bytes true true n r true e =
    let pushed = place_of-push known bytes (none_of (place_of known bytes) n) in
    absurd (false≢true (sym (ap is_none pushed) ∙ e))
put_by known bytes true true n r false e = refl
put_by known bytes true false n r true e = (refl, grind (arith, nat_tests))
put_by known bytes true false n r false e = absurd (false≢true (sym e ∙ n))
put_by known bytes false room n r true e = absurd (false≢true (sym n ∙ e))
put_by known bytes false room n r false e = refl

put : (known : Words) (bytes : List ℕ) (past : Bool)
    → is_none (place_of (names_with known bytes) bytes) ≡ past
    → MatchPast past known bytes (is_none (place_of known bytes)) (nat_lt (length known) NAMES_MAX)
put known bytes past e = put_by known bytes (is_none (place_of known bytes))
    (nat_lt (length known) NAMES_MAX) refl refl past e

own_is : (kind : NameKind) (before : Before) → is_own kind before ≡ true → kind_behind before ≡ kind
own_is Proposition EventWord e = refl
own_is Proposition EventParen e = absurd (false≢true e)
own_is Proposition Other e = refl
own_is EventKind EventWord e = absurd (false≢true e)
own_is EventKind EventParen e = refl
own_is EventKind Other e = absurd (false≢true e)

is_behind : (before : Before) → is_own (kind_behind before) before ≡ true
is_behind EventWord = refl
is_behind EventParen = refl
is_behind Other = refl

-- Some kind has more than NAMES_MAX names with those of the first so many.
abbrev PastIn : Known → List RawTokenAt → ℕ → Type 0
PastIn known raws n = (kind : NameKind) × (NAMES_MAX
    < count (names_of_kind kind known.vocabulary) (uses kind known.before (take n raws)))

abbrev Told : Known → List RawTokenAt → Option ℕ → Type 0
Told known raws found = MatchOption found ((n : ℕ) → PastIn known raws n → ⊥)
    (λ place. PastIn known raws (suc place) × ((n : ℕ) → n ≤ place → PastIn known raws n → ⊥))

not_yet : (known : Known) (raws : List RawTokenAt) → AreFew known → PastIn known raws zero → ⊥
not_yet known raws few h = omega (arith, few h.0, h.1)

name_count : (kind : NameKind) (known : Known) (bytes : List ℕ) (more : Words)
    → word_is_past known (raw_name bytes) ≡ false
    → count (names_of_kind kind known.vocabulary) (used kind known.before (raw_name bytes) more)
    ≡ count (names_of_kind kind (vocabulary_after known (raw_name bytes))) more
name_count kind known bytes more unpast = by (is_own kind known.before) refl
    ∙ ap (λ l. count l more) (sym (own_names kind known.before known.vocabulary bytes))
  where
    l : Words
    l = names_of_kind kind known.vocabulary

    by : (is : Bool) → is_own kind known.before ≡ is
        → count l (if is then bytes ∷ more else more)
        ≡ count (if is then names_with l bytes else l) more
    by true e =
        let mine = ap (λ k. is_none (place_of (names_with (names_of_kind k known.vocabulary) bytes)
        bytes)) (sym (own_is kind known.before e)) ∙ unpast in
        count_name l bytes more
        ∙ ap (λ (none : Bool). count (cond none (l ++ bytes ∷ []) l) more) (sym (none_fresh l bytes))
        ∙ ap (λ names. count names more) (sym (put l bytes false mine))
    by false e = refl

same_count : (kind : NameKind) (known : Known) (word : RawToken) (more : Words) → IsPlain word
    → word_is_past known word ≡ false
    → count (names_of_kind kind known.vocabulary) (used kind known.before word more)
    ≡ count (names_of_kind kind (vocabulary_after known word)) more
same_count kind known (raw_name bytes) more h unpast = name_count kind known bytes more unpast
same_count kind known (raw_event bytes) more h unpast = refl
same_count kind known (raw_number bytes) more h unpast = refl
same_count kind known (raw_sign token) more h unpast = refl

-- A name past the first NAMES_MAX is one more.
one_past : (known : Known) (word : RawToken) → word_is_past known word ≡ true
    → NAMES_MAX < count (names_of_kind (kind_behind known.before) known.vocabulary)
    (used (kind_behind known.before) known.before word [])
one_past known (raw_name bytes) e =
    let l = names_of_kind (kind_behind known.before) known.vocabulary in
    let is = put l bytes true e in
    let more = ap (λ (own : Bool). count l (if own then bytes ∷ [] else [])) (is_behind known.before)
    ∙ count_name l bytes []
    ∙ ap (λ (none : Bool). count (cond none (l ++ bytes ∷ []) l) []) (sym (none_fresh l bytes) ∙ is.0) in
    let size = length-append l (bytes ∷ []) in
    omega (arith, more, is.1, size)
one_past known (raw_event bytes) e = absurd (false≢true e)
one_past known (raw_number bytes) e = absurd (false≢true e)
one_past known (raw_sign token) e = absurd (false≢true e)

told_later : (known : Known) (raw : RawTokenAt) (rest : List RawTokenAt) (later : Option ℕ)
    → AreFew known → IsPlain raw.word → word_is_past known raw.word ≡ false
    → Told (known_after known raw.word) rest later → Told known (raw ∷ rest) (option_map suc later)
told_later known raw rest later few plain unpast t = by later t
  where
    back : (n : ℕ) → PastIn known (raw ∷ rest) (suc n) → PastIn (known_after known raw.word) rest n
    back n h = (
      h.0,
      subst (λ m. NAMES_MAX < m) (same_count h.0 known raw.word
          (uses h.0 (before_next known.before raw.word) (take n rest)) plain unpast) h.1,
    )

    on : (n : ℕ) → PastIn (known_after known raw.word) rest n → PastIn known (raw ∷ rest) (suc n)
    on n h = (
      h.0,
      subst (λ m. NAMES_MAX < m) (sym (same_count h.0 known raw.word
          (uses h.0 (before_next known.before raw.word) (take n rest)) plain unpast)) h.1,
    )

    never : ((n : ℕ) → PastIn (known_after known raw.word) rest n → ⊥) → (n : ℕ)
        → PastIn known (raw ∷ rest) n → ⊥
    never none zero h = not_yet known (raw ∷ rest) few h
    never none (suc n) h = none n (back n h)

    fewer : (place : ℕ) → ((n : ℕ) → n ≤ place → PastIn (known_after known raw.word) rest n → ⊥)
        → (n : ℕ) → n ≤ suc place → PastIn known (raw ∷ rest) n → ⊥
    fewer place none zero le h = not_yet known (raw ∷ rest) few h
    fewer place none (suc n) le h = none n (omega (arith, le)) (back n h)

    by : (later : Option ℕ) → Told (known_after known raw.word) rest later
        → Told known (raw ∷ rest) (option_map suc later)
    by None t = never t
    by (Some place) t = (on (suc place) t.0, fewer place t.1)

told_here : (known : Known) (raw : RawTokenAt) (rest : List RawTokenAt) → AreFew known
    → word_is_past known raw.word ≡ true → Told known (raw ∷ rest) (Some 0)
told_here known raw rest few e =
    ((kind_behind known.before, one_past known raw.word e), none)
  where
    none : (n : ℕ) → n ≤ 0 → PastIn known (raw ∷ rest) n → ⊥
    none zero le h = not_yet known (raw ∷ rest) few h
    none (suc n) le h = omega (arith, le)

past_told : (scale : ℕ) (raws : List RawTokenAt) (known : Known) → AreFew known → ArePlain raws
    → Told known raws (position is_past (tokens_from scale known raws))
past_told scale [] known few h = none
  where
    none : (n : ℕ) → PastIn known [] n → ⊥
    none zero k = not_yet known [] few k
    none (suc n) k = not_yet known [] few k
past_told scale (raw ∷ rest) known few h =
    let next = known_after known raw.word in
    let tokens = tokens_from scale next rest in
    subst (Told known (raw ∷ rest))
    (sym (position_first is_past (next_token scale known raw.word) tokens
    ∙ ap (λ (is : Bool). if is then Some 0 else option_map suc (position is_past tokens))
    (word_past scale known raw.word few h.0)))
    (by (word_is_past known raw.word) refl (position is_past tokens)
    (past_told scale rest next (few_after known raw.word few) h.1))
  where
    by : (is : Bool) → word_is_past known raw.word ≡ is → (found : Option ℕ)
        → Told (known_after known raw.word) rest found
        → Told known (raw ∷ rest) (if is then Some 0 else option_map suc found)
    by true e found t = told_here known raw rest few e
    by false e found t = told_later known raw rest found few h.0 e t

-- The words of the first raw tokens have more than NAMES_MAX names.
kind_past : (kind : NameKind) (raws : List RawTokenAt) → ArePlain raws
    → length (names_of_kind kind (names_among (texts raws)))
    ≡ count (names_of_kind kind nothing_known.vocabulary) (uses kind Other raws)
kind_past kind raws h =
    let all : length (filter (fresh []) (all_of kind raws)) ≡ length (all_of kind raws) =
    ap length (filter_all (all_of kind raws)) in
    let same : length (all_of kind raws) ≡ count [] (uses kind Other raws) = omega (arith, all) in
    ap length (names_all kind raws h) ∙ same
    ∙ ap (λ l. count l (uses kind Other raws)) (sym (nothing_of kind))

past_words : (raws : List RawTokenAt) (n : ℕ) → ArePlain raws → HasPast (take n (texts raws))
    → PastIn nothing_known raws n
past_words raws n h past = by (subst HasPast first past)
  where
    first : take n (texts raws) ≡ texts (take n raws)
    first = take-map (λ (one : WordAt). one.1) n (map word_at raws)
        ∙ ap (map (λ (one : WordAt). one.1)) (take-map word_at n raws)

    by : HasPast (texts (take n raws)) → PastIn nothing_known raws n
    by (inl k) = (
      Proposition,
      subst (λ m. NAMES_MAX < m)
          (kind_past Proposition (take n raws) (plain_take n raws h)) k,
    )
    by (inr k) = (
      EventKind,
      subst (λ m. NAMES_MAX < m)
          (kind_past EventKind (take n raws) (plain_take n raws h)) k,
    )

words_past : (raws : List RawTokenAt) (n : ℕ) → ArePlain raws → PastIn nothing_known raws n
    → HasPast (take n (texts raws))
words_past raws n h past = subst HasPast (sym first) (by past.0 past.1)
  where
    first : take n (texts raws) ≡ texts (take n raws)
    first = take-map (λ (one : WordAt). one.1) n (map word_at raws)
        ∙ ap (map (λ (one : WordAt). one.1)) (take-map word_at n raws)

    by : (kind : NameKind) → NAMES_MAX < count (names_of_kind kind nothing_known.vocabulary)
        (uses kind Other (take n raws)) → HasPast (texts (take n raws))
    by Proposition k = inl (subst (λ m. NAMES_MAX < m)
        (sym (kind_past Proposition (take n raws) (plain_take n raws h))) k)
    by EventKind k = inr (subst (λ m. NAMES_MAX < m)
        (sym (kind_past EventKind (take n raws) (plain_take n raws h))) k)

abbrev pub PastAt : Words → ℕ → Type 0
PastAt words place = HasPast (take (place + 1) words)

abbrev pub PastOf : Words → Option ℕ → Type 0
PastOf words found = MatchOption found ((place : ℕ) → PastAt words place → ⊥)
    (IsFirst (PastAt words))

text_past : (raws : List RawTokenAt) (found : Option ℕ) → ArePlain raws
    → Told nothing_known raws found → PastOf (texts raws) found
text_past raws None h t = λ place past. t (place + 1) (past_words raws (place + 1) h past)
text_past raws (Some place) h t =
    let one : suc place ≡ place + 1 = omega arith in (
      words_past raws (place + 1) h (subst (PastIn nothing_known raws) one t.0),
      λ n less past. t.1 (n + 1) (omega (arith, less)) (past_words raws (n + 1) h past),
    )

-- ---- the text as a whole

pub past_of_text : (scale : ℕ) (text : List ℕ)
    → PastOf (words_of text) (position is_past (tokens_of scale text))
past_of_text scale text =
    let raws = raw_tokens_of text in
    let plain = raw_tokens_plain 0 0 text in
    text_past raws (position is_past (tokens_of scale text)) plain
    (past_told scale raws nothing_known nothing_few plain)

-- Where no name is past the first NAMES_MAX, the names that are scanned are all.
pub names_run : (scale : ℕ) (text : List ℕ) → position is_past (tokens_of scale text) ≡ None
    → names_of text ≡ names_among (words_of text)
names_run scale text none =
    let raws = raw_tokens_of text in
    let plain = raw_tokens_plain 0 0 text in
    let words = words_of text in
    let never = subst (PastOf words) none (past_of_text scale text) (length words) in
    let kinds = λ (kind : NameKind). names_first kind raws plain
    ∙ ap (take NAMES_MAX) (sym (names_all kind raws plain)) in
    let one = kinds Proposition ∙ take_few NAMES_MAX (names_among words).names
    (λ more. never (subst (λ l. HasPast l) (sym (take_all_of words)) (inl more))) in
    let two = kinds EventKind ∙ take_few NAMES_MAX (names_among words).events
    (λ more. never (subst (λ l. HasPast l) (sym (take_all_of words)) (inr more))) in
    ap (λ (l : Words). record { names = l; events = (names_of text).events }) one
    ∙ ap (λ (l : Words). record { names = (names_among words).names; events = l }) two
  where
    take_all_of : (words : Words) → take (length words + 1) words ≡ words
    take_all_of [] = refl
    take_all_of (word ∷ rest) =
        let same : suc (length rest) + 1 ≡ suc (length rest + 1) = omega arith in
        ap (λ n. take n (word ∷ rest)) same ∙ ap (λ l. word ∷ l) (take_all_of rest)

    take_few : (n : ℕ) (l : Words) → (n < length l → ⊥) → take n l ≡ l
    take_few zero [] h = refl
    take_few zero (x ∷ l) h = absurd (h (omega arith))
    take_few (suc n) [] h = refl
    take_few (suc n) (x ∷ l) h = ap (λ m. x ∷ m) (take_few n l (λ lt. h (omega (arith, lt))))

past_word : (first size : ℕ) (offsets : List ℕ) (is : Bool) (later : Option ℕ) →
    (if is then Some first else option_map (λ place. slice_index_or offsets place size) later)
    ≡ option_map (λ place. slice_index_or (first ∷ offsets) place size)
    (if is then Some 0 else option_map suc later)
past_word first size offsets true later = refl
past_word first size offsets false None = refl
past_word first size offsets false (Some place) = refl

past_places : (scale size : ℕ) (raw_tokens : List RawTokenAt) (known : Known) → AreFew known
    → ArePlain raw_tokens → past_from known raw_tokens
    ≡ option_map (λ place. slice_index_or (offsets_of raw_tokens) place size)
    (position is_past (tokens_from scale known raw_tokens))
past_places scale size [] known few h = refl
past_places scale size (raw ∷ rest) known few h =
    let next = known_after known raw.word in
    let token = next_token scale known raw.word in
    let tokens = tokens_from scale next rest in
    let offset = λ (place : ℕ). slice_index_or (offsets_of (raw ∷ rest)) place size in
    ap (λ later. if word_is_past known raw.word then Some raw.at else later)
    (past_places scale size rest next (few_after known raw.word few) h.1)
    ∙ past_word raw.at size (offsets_of rest) (word_is_past known raw.word)
    (position is_past tokens)
    ∙ ap (λ is. option_map offset (if is then Some 0 else option_map suc (position is_past tokens)))
    (sym (word_past scale known raw.word few h.0))
    ∙ ap (option_map offset) (sym (position_first is_past token tokens))

pub past_run : (scale : ℕ) (text : List ℕ) → past_of (text_tokens_of scale text)
    ≡ past_from nothing_known (raw_tokens_of text)
past_run scale text = sym (past_places scale (length text) (raw_tokens_of text) nothing_known
    nothing_few (raw_tokens_plain 0 0 text))
