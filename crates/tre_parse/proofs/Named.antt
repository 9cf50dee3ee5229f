-- The words, names and tokens of a text are those that are found while it is read from the left.
use Rattle.std.proofs.Common.{◌≡◌, ℕ, ◌+◌, ◌-◌, ◌<◌, ◌≤◌, zero, suc, Bool, true, false, cond, not, ◌&&◌, ◌||◌, Some, None, List, [], ◌∷◌, ◌++◌, length, map, take, refl, sym, ◌∙◌, ap, subst, arith, append_assoc, length-append, rules}
use Rattle.std.specs.Prelude.{codes, min, nat_lt, if◌then◌else◌, is_none, unwrap_or, filter}
use Rattle.std.specs.List.{list_any, position_or_len}
use Rattle.std.specs.Str.{bytes_eq}
use Rattle.std.proofs.Math.Seq.{take-nil}
use Rattle.std.proofs.lemmas.Bool.{false≢true}
use Rattle.std.proofs.lemmas.Bool.Decides.{nat_tests}
use Rattle.std.proofs.lemmas.List.{append-nil}
use Rattle.std.proofs.lemmas.List.Folds.{list_any-append}
use Rattle.std.proofs.lemmas.Slice.Eq.{bytes_eq-Decides}
use Rattle.tre_state.specs.declared.names.TheConstants.{NAMES_MAX}
use Rattle.tre_state.specs.Names.{place_of}
use Rattle.tre_trace.specs.Reading.{Vocabulary}
use Rattle.tre_syntax.specs.declared.name_kind.NameKind.{NameKind}
use Rattle.tre_syntax.specs.declared.name_kind.NameKind.TheVariants.{Proposition, Event as EventKind}
use Rattle.tre_parse.specs.declared.token.Token.{Token}
use Rattle.tre_parse.specs.declared.token.Token.TheVariants.{Name as Numbered, EventName, Number as Units}
use Rattle.tre_parse.specs.declared.before.Before.{Before}
use Rattle.tre_parse.specs.declared.before.Before.TheVariants.{EventWord, EventParen, Other}
use Rattle.tre_parse.specs.Tokens.{RawToken, name as raw_name, event_name as raw_event, number as raw_number, sign as raw_sign, RawTokenAt}
use Rattle.tre_parse.specs.Words.{Words, is_name, is_number, names_in, first_uses, names_among, place_in, units_within}
use Rattle.tre_parse.specs.Scanned.{raw_tokens_of}
use Rattle.tre_parse.specs.Known.{behind_paren, before_next, kind_behind, names_of_kind, names_with, vocabulary_with, Known, nothing_known, numbered, next_token, vocabulary_after, known_after, tokens_from, names_from}
use Rattle.tre_parse.specs.TokenWords.{text_of, known_as, before_word, text_in, WordAt, word_at, token_as, tokens_for, Stands, Piece, words_by, tokens_by}
use Rattle.tre_parse.proofs.Plain.{IsNoName, IsPlain, ArePlain, raw_tokens_plain}
use Rattle.tre_parse.proofs.NameNumbers.{HasPlace, own_kind, for_good, placed}
use Rattle.tre_parse.proofs.Pieces.{name_differs, number_differs}
use Rattle.tre_parse.proofs.Spelt.{number_no_name}

-- The words of a text, as the scanner has them.
abbrev pub placed_of : List ℕ → List WordAt
placed_of text = map word_at (raw_tokens_of text)

abbrev pub texts : List RawTokenAt → Words
texts raws = map (λ (one : WordAt). one.1) (map word_at raws)

pub plain_take : (n : ℕ) (raws : List RawTokenAt) → ArePlain raws → ArePlain (take n raws)
plain_take zero raws h = tt
plain_take (suc n) [] h = tt
plain_take (suc n) (raw ∷ rest) h = (h.0, plain_take n rest h.1)

numeral_no_name : (text : List ℕ) → is_number text ≡ true → is_name text ≡ false
numeral_no_name text is = number_no_name 0 nothing_known.vocabulary text is

sign_no_name : (token : Token) → is_name (text_of token) ≡ false
sign_no_name (Numbered i) = refl
sign_no_name _ = refl

-- ---- what stands before a word

abbrev after_event : Before → Bool
after_event EventWord = true
after_event _ = false

abbrev after_paren : Before → Bool
after_paren EventParen = true
after_paren _ = false

-- The two words are what stands before the next.
record StandBefore (before : Before) (one two : List ℕ) : Type 0 where
  event : bytes_eq two (codes "event") ≡ after_event before
  paren : (bytes_eq one (codes "event") && bytes_eq two (codes "(")) ≡ after_paren before

stand_next : (before : Before) (one two word : List ℕ) → StandBefore before one two
    → StandBefore (before_word before word) two word
stand_next before one two word h =
    by (bytes_eq word (codes "event")) (bytes_eq word (codes "(")) refl refl
  where
    paren_by : (before : Before) → after_event before ≡ after_paren (behind_paren before)
    paren_by EventWord = refl
    paren_by EventParen = refl
    paren_by Other = refl

    event_by : (before : Before) → false ≡ after_event (behind_paren before)
    event_by EventWord = refl
    event_by EventParen = refl
    event_by Other = refl

    both : bytes_eq word (codes "event") ≡ true → bytes_eq word (codes "(") ≡ true → ⊥
    both e p = false≢true (ap (λ text. bytes_eq text (codes "("))
        (sym ((bytes_eq-Decides word (codes "event")).0 e)) ∙ p)

    none : (is : Bool) → (is && false) ≡ false
    none true = refl
    none false = refl

    and_true : (is : Bool) → (is && true) ≡ is
    and_true true = refl
    and_true false = refl

    follow : (event paren : Bool) → bytes_eq word (codes "event") ≡ event
        → bytes_eq word (codes "(") ≡ paren → StandBefore
        (if event then EventWord else (if paren then behind_paren before else Other)) two word
        → StandBefore (before_word before word) two word
    follow event paren e p stand = subst (λ b. StandBefore b two word)
        (sym (ap (λ (is : Bool). if is then EventWord
        else (if bytes_eq word (codes "(") then behind_paren before else Other)) e
        ∙ ap (λ (is : Bool). if event then EventWord
        else (if is then behind_paren before else Other)) p)) stand

    unopened : bytes_eq word (codes "(") ≡ false
        → (bytes_eq two (codes "event") && bytes_eq word (codes "(")) ≡ false
    unopened p = ap (λ q. bytes_eq two (codes "event") && q) p ∙ none (bytes_eq two (codes "event"))

    by : (event paren : Bool) → bytes_eq word (codes "event") ≡ event
        → bytes_eq word (codes "(") ≡ paren → StandBefore (before_word before word) two word
    by true true e p = absurd (both e p)
    by true false e p = follow true false e p (record { event = e; paren = unopened p })
    by false true e p = follow false true e p (record {
      event = e ∙ event_by before;
      paren = ap (λ q. bytes_eq two (codes "event") && q) p
          ∙ and_true (bytes_eq two (codes "event")) ∙ h.event ∙ paren_by before;
    })
    by false false e p = follow false false e p (record { event = e; paren = unopened p })

-- A raw token is followed as its word is.
sign_before : (before : Before) (token : Token) → IsNoName token
    → before_next before (raw_sign token) ≡ before_word before (text_of token)
sign_before before (Numbered i) h = absurd h
sign_before before (EventName i) h = absurd h
sign_before before (Units n) h = absurd h
sign_before before _ h = refl

plain_before : (before : Before) (text : List ℕ) → bytes_eq text (codes "event") ≡ false
    → bytes_eq text (codes "(") ≡ false → Other ≡ before_word before text
plain_before before text e p =
    sym (ap (λ (is : Bool). if is then EventWord
    else (if bytes_eq text (codes "(") then behind_paren before else Other)) e
    ∙ ap (λ (is : Bool). if is then behind_paren before else Other) p)

pub next_before : (before : Before) (raw : RawToken) → IsPlain raw
    → before_next before raw ≡ before_word before (text_in raw)
next_before before (raw_name text) h = plain_before before text
    (name_differs text h (codes "event") refl refl) (name_differs text h (codes "(") refl refl)
next_before before (raw_event text) h = absurd h
next_before before (raw_number text) h = plain_before before text
    (number_differs text h (codes "event") refl refl) (number_differs text h (codes "(") refl refl)
next_before before (raw_sign token) h = sign_before before token h

-- ---- the names of a kind, as they are used

abbrev pub is_own : NameKind → Before → Bool
is_own Proposition EventParen = false
is_own Proposition _ = true
is_own EventKind EventParen = true
is_own EventKind _ = false

abbrev pub used : NameKind → Before → RawToken → Words → Words
used kind before (raw_name bytes) more = if is_own kind before then bytes ∷ more else more
used kind before _ more = more

abbrev pub uses : NameKind → Before → List RawTokenAt → Words
uses kind before [] = []
uses kind before (raw ∷ rest) =
    used kind before raw.word (uses kind (before_next before raw.word) rest)

abbrev chosen : NameKind → Bool → Bool
chosen Proposition of_event = not of_event
chosen EventKind of_event = of_event

own_chosen : (kind : NameKind) (before : Before) → chosen kind (after_paren before)
    ≡ is_own kind before
own_chosen Proposition EventWord = refl
own_chosen Proposition EventParen = refl
own_chosen Proposition Other = refl
own_chosen EventKind EventWord = refl
own_chosen EventKind EventParen = refl
own_chosen EventKind Other = refl

names_uses : (kind : NameKind) (before : Before) (one two : List ℕ) (raws : List RawTokenAt)
    → ArePlain raws → StandBefore before one two
    → names_in (chosen kind) one two (texts raws) ≡ uses kind before raws
names_uses kind before one two [] h s = refl
names_uses kind before one two (raw ∷ rest) h s =
    by raw.word h.0 (subst (λ b. StandBefore b two (text_in raw.word))
    (sym (next_before before raw.word h.0)) (stand_next before one two (text_in raw.word) s))
    (λ b word stand. names_uses kind b two word rest h.1 stand)
  where
    of_event : Bool
    of_event = bytes_eq one (codes "event") && bytes_eq two (codes "(")

    unnamed : (word : List ℕ) (more : Words) → is_name word ≡ false →
        (if is_name word && chosen kind of_event then word ∷ more else more) ≡ more
    unnamed word more none =
        ap (λ (is : Bool). if is && chosen kind of_event then word ∷ more else more) none

    by : (word : RawToken) → IsPlain word → StandBefore (before_next before word) two (text_in word)
        → ((b : Before) (word : List ℕ) → StandBefore b two word
        → names_in (chosen kind) two word (texts rest) ≡ uses kind b rest)
        → (if is_name (text_in word) && chosen kind of_event
        then text_in word ∷ names_in (chosen kind) two (text_in word) (texts rest)
        else names_in (chosen kind) two (text_in word) (texts rest))
        ≡ used kind before word (uses kind (before_next before word) rest)
    by (raw_name text) is next go =
        let more = go Other text next in
        ap (λ (l : Words). if is_name text && chosen kind of_event then text ∷ l else l) more
        ∙ ap (λ (yes : Bool). if yes && chosen kind of_event
        then text ∷ uses kind Other rest else uses kind Other rest) is
        ∙ ap (λ (yes : Bool). if yes then text ∷ uses kind Other rest else uses kind Other rest)
        (ap (chosen kind) s.paren ∙ own_chosen kind before)
    by (raw_event text) is next go = absurd is
    by (raw_number text) is next go =
        unnamed text _ (numeral_no_name text is) ∙ go Other text next
    by (raw_sign token) is next go =
        unnamed (text_of token) _ (sign_no_name token)
        ∙ go (before_next before (raw_sign token)) (text_of token) next

-- ---- names are put at the end, one after the other

abbrev extend : List (List ℕ) → List (List ℕ) → List (List ℕ)
extend known [] = known
extend known (bytes ∷ rest) = extend (names_with known bytes) rest

pub own_names : (kind : NameKind) (before : Before) (known : Vocabulary) (bytes : List ℕ)
    → names_of_kind kind (vocabulary_with (kind_behind before) known bytes)
    ≡ (if is_own kind before then names_with (names_of_kind kind known) bytes
    else names_of_kind kind known)
own_names Proposition EventWord known bytes = refl
own_names Proposition EventParen known bytes = refl
own_names Proposition Other known bytes = refl
own_names EventKind EventWord known bytes = refl
own_names EventKind EventParen known bytes = refl
own_names EventKind Other known bytes = refl

word_extends : (kind : NameKind) (known : Known) (word : RawToken) (more : Words) → IsPlain word
    → extend (names_of_kind kind (vocabulary_after known word)) more
    ≡ extend (names_of_kind kind known.vocabulary) (used kind known.before word more)
word_extends kind known (raw_name bytes) more h =
    ap (λ l. extend l more) (own_names kind known.before known.vocabulary bytes)
    ∙ by (is_own kind known.before)
  where
    by : (is : Bool) → extend (if is then names_with (names_of_kind kind known.vocabulary) bytes
        else names_of_kind kind known.vocabulary) more
        ≡ extend (names_of_kind kind known.vocabulary) (if is then bytes ∷ more else more)
    by true = refl
    by false = refl
word_extends kind known (raw_event bytes) more h = absurd h
word_extends kind known (raw_number bytes) more h = refl
word_extends kind known (raw_sign token) more h = refl

names_extend : (kind : NameKind) (raws : List RawTokenAt) (known : Known) → ArePlain raws
    → names_of_kind kind (names_from known raws)
    ≡ extend (names_of_kind kind known.vocabulary) (uses kind known.before raws)
names_extend kind [] known h = refl
names_extend kind (raw ∷ rest) known h =
    names_extend kind rest (known_after known raw.word) h.1
    ∙ word_extends kind known raw.word (uses kind (before_next known.before raw.word) rest) h.0

-- ---- which is the first of those that differ

-- The name is none of these.
abbrev pub fresh : List (List ℕ) → List ℕ → Bool
fresh known bytes = not (list_any (bytes_eq bytes) known)

pub one_less : (n m : ℕ) (is : Bool) → nat_lt n m ≡ is → nat_lt (1 + n) (suc m) ≡ is
one_less n m true e = grind (arith, nat_tests)
one_less n m false e = grind (arith, nat_tests)

pub none_less : (m : ℕ) → nat_lt 0 (suc m) ≡ true
none_less m = grind (arith, nat_tests)

position_none : {X : Type 0} (p : X → Bool) (xs : List X)
    → nat_lt (position_or_len p xs) (length xs) ≡ list_any p xs
position_none p [] = refl
position_none p (x ∷ xs) = by (p x) (position_none p xs)
  where
    by : (is : Bool) → nat_lt (position_or_len p xs) (length xs) ≡ list_any p xs
        → nat_lt (cond (not is) (1 + position_or_len p xs) 0) (suc (length xs))
        ≡ (is || list_any p xs)
    by true e = none_less (length xs)
    by false e = one_less (position_or_len p xs) (length xs) (list_any p xs) e

pub none_fresh : (known : List (List ℕ)) (bytes : List ℕ) → is_none (place_of known bytes)
    ≡ fresh known bytes
none_fresh known bytes =
    by (nat_lt (position_or_len (bytes_eq bytes) known) (length known))
    (position_or_len (bytes_eq bytes) known) ∙ ap not (position_none (bytes_eq bytes) known)
  where
    by : (is : Bool) (n : ℕ) → is_none (cond is (Some n) None) ≡ not is
    by true n = refl
    by false n = refl

pub fresh_with : (known : List (List ℕ)) (bytes other : List ℕ) → fresh (known ++ bytes ∷ []) other
    ≡ (not (bytes_eq other bytes) && fresh known other)
fresh_with known bytes other = ap not (list_any-append (bytes_eq other) known (bytes ∷ []))
    ∙ by (list_any (bytes_eq other) known) (bytes_eq other bytes)
  where
    by : (a b : Bool) → not (a || (b || false)) ≡ (not b && not a)
    by true true = refl
    by true false = refl
    by false true = refl
    by false false = refl

pub fresh_same : (known : List (List ℕ)) (bytes other : List ℕ) → fresh known bytes ≡ false
    → fresh known other ≡ (not (bytes_eq other bytes) && fresh known other)
fresh_same known bytes other e = search rules

pub filter_both : {X : Type 0} (p q r : X → Bool) → ((x : X) → r x ≡ (q x && p x)) → (xs : List X)
    → filter p (filter q xs) ≡ filter r xs
filter_both p q r same [] = refl
filter_both {X = X} p q r same (x ∷ xs) =
    by (q x) (r x) (filter q xs) (filter r xs) (same x) (filter_both p q r same xs)
  where
    by : (b c : Bool) (ys zs : List X) → c ≡ (b && p x) → filter p ys ≡ zs
        → filter p (cond b (x ∷ ys) ys) ≡ cond c (x ∷ zs) zs
    by true c ys zs e ih = ap (λ l. cond (p x) (x ∷ l) l) ih
        ∙ ap (λ d. cond d (x ∷ zs) zs) (sym e)
    by false c ys zs e ih = ih ∙ ap (λ d. cond d (x ∷ zs) zs) (sym e)

pub filter_all : {X : Type 0} (xs : List X) → filter (λ x. true) xs ≡ xs
filter_all [] = refl
filter_all (x ∷ xs) = ap (λ l. x ∷ l) (filter_all xs)

-- As many more as there is room for.
abbrev Takes : List (List ℕ) → List (List ℕ) → Type 0
Takes known uses = extend known uses
    ≡ known ++ take (NAMES_MAX - length known) (filter (fresh known) (first_uses uses))

-- With one more used first, which is one of the known ones or not, and for which there is room or not.
takes_one : (bytes : List ℕ) (uses known : List (List ℕ)) (is room : Bool) → length known ≤ NAMES_MAX
    → ((names : List (List ℕ)) → length names ≤ NAMES_MAX → Takes names uses)
    → fresh known bytes ≡ is → nat_lt (length known) NAMES_MAX ≡ room →
    extend (if is && room then known ++ bytes ∷ [] else known) uses
    ≡ known ++ take (NAMES_MAX - length known)
    (cond is (bytes ∷ filter (fresh known) (filter (λ other. not (bytes_eq other bytes))
    (first_uses uses)))
    (filter (fresh known) (filter (λ other. not (bytes_eq other bytes)) (first_uses uses))))
takes_one bytes uses known false room le go e f =
    go known le
    ∙ ap (λ l. known ++ take (NAMES_MAX - length known) l)
    (sym (filter_both (fresh known) (λ other. not (bytes_eq other bytes)) (fresh known)
    (λ other. fresh_same known bytes other e) (first_uses uses)))
takes_one bytes uses known true true le go e f =
    let more = known ++ bytes ∷ [] in
    let size = length-append known (bytes ∷ []) in
    let less : length known < NAMES_MAX = grind (arith, nat_tests) in
    let few : length more ≤ NAMES_MAX = omega (arith, less, size) in
    let left : suc (NAMES_MAX - length more) ≡ NAMES_MAX - length known =
    omega (arith, less, size) in
    let others = filter (fresh known) (filter (λ other. not (bytes_eq other bytes))
    (first_uses uses)) in
    go more few
    ∙ ap (λ l. more ++ take (NAMES_MAX - length more) l)
    (sym (filter_both (fresh known) (λ other. not (bytes_eq other bytes)) (fresh more)
    (λ other. fresh_with known bytes other) (first_uses uses)))
    ∙ append_assoc known (bytes ∷ []) (take (NAMES_MAX - length more) others)
    ∙ ap (λ n. known ++ take n (bytes ∷ others)) left
takes_one bytes uses known true false le go e f = search rules

extend_takes : (uses known : List (List ℕ)) → length known ≤ NAMES_MAX → Takes known uses
extend_takes [] known le = sym (append-nil known)
    ∙ ap (λ l. known ++ l) (sym (take-nil (NAMES_MAX - length known)))
extend_takes (bytes ∷ uses) known le =
    ap (λ is. extend (if is && nat_lt (length known) NAMES_MAX then known ++ bytes ∷ [] else known)
    uses) (none_fresh known bytes)
    ∙ takes_one bytes uses known (fresh known bytes) (nat_lt (length known) NAMES_MAX) le
    (λ names few. extend_takes uses names few) refl refl

-- ---- the names of a text

pub nothing_of : (kind : NameKind) → names_of_kind kind nothing_known.vocabulary ≡ []
nothing_of Proposition = refl
nothing_of EventKind = refl

abbrev pub all_of : NameKind → List RawTokenAt → Words
all_of kind raws = first_uses (uses kind Other raws)

pub names_all : (kind : NameKind) (raws : List RawTokenAt) → ArePlain raws
    → names_of_kind kind (names_among (texts raws)) ≡ all_of kind raws
names_all Proposition raws h = ap first_uses
    (names_uses Proposition Other [] [] raws h (record { event = refl; paren = refl }))
names_all EventKind raws h = ap first_uses
    (names_uses EventKind Other [] [] raws h (record { event = refl; paren = refl }))

pub names_first : (kind : NameKind) (raws : List RawTokenAt) → ArePlain raws
    → names_of_kind kind (names_from nothing_known raws) ≡ take NAMES_MAX (all_of kind raws)
names_first kind raws h =
    names_extend kind raws nothing_known h
    ∙ ap (λ l. extend l (uses kind Other raws)) (nothing_of kind)
    ∙ extend_takes (uses kind Other raws) [] (omega arith)
    ∙ ap (take NAMES_MAX) (filter_all (all_of kind raws))

-- The place among the first so many.
place_by : (n k len : ℕ) (less fewer : Bool) → k ≤ len → nat_lt k len ≡ less
    → nat_lt (min n k) (min n len) ≡ fewer
    → unwrap_or (cond fewer (Some (min n k)) None) n ≡ min (unwrap_or (cond less (Some k) None) n) n
place_by n k len true true le e f =
    let a : k < len = grind (arith, nat_tests) in
    let b : min n k < min n len = grind (arith, nat_tests) in
    omega (arith, a, b)
place_by n k len true false le e f =
    let a : k < len = grind (arith, nat_tests) in
    let b : min n len ≤ min n k = grind (arith, nat_tests) in
    omega (arith, a, b)
place_by n k len false true le e f =
    let a : len ≤ k = grind (arith, nat_tests) in
    let b : min n k < min n len = grind (arith, nat_tests) in
    omega (arith, a, b)
place_by n k len false false le e f = omega arith

first_position : {X : Type 0} (p : X → Bool) (n : ℕ) (xs : List X)
    → (position_or_len p (take n xs) ≡ min n (position_or_len p xs))
    × (length (take n xs) ≡ min n (length xs)) × (position_or_len p xs ≤ length xs)
first_position p zero [] = (omega arith, omega arith, omega arith)
first_position p (suc n) [] = (omega arith, omega arith, omega arith)
first_position p zero (x ∷ xs) =
    let more = first_position p zero xs in
    (omega arith, omega arith, by (p x) more.2)
  where
    by : (is : Bool) → position_or_len p xs ≤ length xs
        → cond (not is) (1 + position_or_len p xs) 0 ≤ suc (length xs)
    by true le = omega arith
    by false le = omega (arith, le)
first_position p (suc n) (x ∷ xs) =
    let more = first_position p n xs in
    (by (p x) more.0, omega (arith, more.1), less (p x) more.2)
  where
    less : (is : Bool) → position_or_len p xs ≤ length xs
        → cond (not is) (1 + position_or_len p xs) 0 ≤ suc (length xs)
    less true le = omega arith
    less false le = omega (arith, le)

    by : (is : Bool) → position_or_len p (take n xs) ≡ min n (position_or_len p xs)
        → cond (not is) (1 + position_or_len p (take n xs)) 0
        ≡ min (suc n) (cond (not is) (1 + position_or_len p xs) 0)
    by true e = omega arith
    by false e = omega (arith, e)

place_first : (n : ℕ) (names : Words) (bytes : List ℕ)
    → unwrap_or (place_of (take n names) bytes) n ≡ min (unwrap_or (place_of names bytes) n) n
place_first n names bytes =
    let p = bytes_eq bytes in
    let f = first_position p n names in
    ap (λ k. unwrap_or (cond (nat_lt k (length (take n names))) (Some k) None) n) f.0
    ∙ ap (λ len. unwrap_or (cond (nat_lt (min n (position_or_len p names)) len)
    (Some (min n (position_or_len p names))) None) n) f.1
    ∙ place_by n (position_or_len p names) (length names) _ _ f.2 refl refl

-- ---- the tokens of a text

-- The number of a name is its place among all of them.
name_number : (known : Known) (bytes : List ℕ) (rest : List RawTokenAt) (names : Vocabulary)
    → (kind : NameKind) → kind ≡ kind_behind known.before
    → names_of_kind kind (names_from (known_after known (raw_name bytes)) rest)
    ≡ take NAMES_MAX (names_of_kind kind names)
    → unwrap_or (place_of (names_with (names_of_kind kind known.vocabulary) bytes) bytes) NAMES_MAX
    ≡ place_in (names_of_kind kind names) bytes
name_number known bytes rest names kind same all =
    let here = names_of_kind kind known.vocabulary in
    let next = known_after known (raw_name bytes) in
    let own = ap (λ k. names_of_kind kind (vocabulary_with k known.vocabulary bytes)) (sym same)
    ∙ own_kind kind known.vocabulary bytes in
    let has = subst (λ l. HasPlace l bytes) (sym own)
    (placed here bytes (place_of here bytes) (nat_lt (length here) NAMES_MAX) refl refl) in
    ap (λ o. unwrap_or o NAMES_MAX) (sym (for_good kind next rest bytes has
    ∙ ap (λ l. place_of l bytes) own))
    ∙ ap (λ l. unwrap_or (place_of l bytes) NAMES_MAX) all
    ∙ place_first NAMES_MAX (names_of_kind kind names) bytes

fixed_token : (token : Token) → IsNoName token → (scale : ℕ) (names : Vocabulary) (before : Before)
    → token_as scale names before (text_of token) ≡ token
fixed_token (Numbered i) h scale names before = absurd h
fixed_token (EventName i) h scale names before = absurd h
fixed_token (Units n) h scale names before = absurd h
fixed_token _ h scale names before = refl

fixed_stands : (token : Token) → IsNoName token → (scale : ℕ) (names : Vocabulary)
    → Stands scale names (text_of token) token
fixed_stands (Numbered i) h scale names = absurd h
fixed_stands (EventName i) h scale names = absurd h
fixed_stands (Units n) h scale names = absurd h
fixed_stands _ h scale names = refl

-- The first NAMES_MAX of each kind are those that a scan comes to.
abbrev AreFirst : Vocabulary → Vocabulary → Type 0
AreFirst names known = (kind : NameKind)
    → names_of_kind kind known ≡ take NAMES_MAX (names_of_kind kind names)

word_token : (scale : ℕ) (names : Vocabulary) (known : Known) (word : RawToken)
    (rest : List RawTokenAt) → IsPlain word → AreFirst names (names_from (known_after known word) rest)
    → next_token scale known word ≡ token_as scale names known.before (text_in word)
word_token scale names known (raw_name bytes) rest h all =
    let kind = kind_behind known.before in
    ap (numbered kind) (name_number known bytes rest names kind refl (all kind))
    ∙ sym (ap (λ (yes : Bool). if yes
    then numbered kind (place_in (names_of_kind kind names) bytes)
    else (if is_number bytes then Units (units_within scale bytes) else known_as bytes)) h)
word_token scale names known (raw_event bytes) rest h all = absurd h
word_token scale names known (raw_number bytes) rest h all =
    sym (ap (λ (yes : Bool). if yes
    then numbered (kind_behind known.before)
    (place_in (names_of_kind (kind_behind known.before) names) bytes)
    else (if is_number bytes then Units (units_within scale bytes) else known_as bytes))
    (numeral_no_name bytes h)
    ∙ ap (λ (yes : Bool). if yes then Units (units_within scale bytes) else known_as bytes) h)
word_token scale names known (raw_sign token) rest h all =
    sym (fixed_token token h scale names known.before)

word_stands : (scale : ℕ) (names : Vocabulary) (known : Known) (word : RawToken)
    (rest : List RawTokenAt) → IsPlain word → AreFirst names (names_from (known_after known word) rest)
    → Stands scale names (text_in word) (next_token scale known word)
word_stands scale names known (raw_name bytes) rest h all =
    by (kind_behind known.before) refl
  where
    by : (kind : NameKind) → kind ≡ kind_behind known.before → Stands scale names bytes
        (numbered kind
        (unwrap_or (place_of (names_with (names_of_kind kind known.vocabulary) bytes) bytes) NAMES_MAX))
    by Proposition e = (h, name_number known bytes rest names Proposition e (all Proposition))
    by EventKind e = (h, name_number known bytes rest names EventKind e (all EventKind))
word_stands scale names known (raw_event bytes) rest h all = absurd h
word_stands scale names known (raw_number bytes) rest h all = (h, refl)
word_stands scale names known (raw_sign token) rest h all = fixed_stands token h scale names

-- The pieces of a text, with the tokens that are scanned.
pub record AreRead (scale : ℕ) (names : Vocabulary) (known : Known) (raws : List RawTokenAt)
    : Type 0 where
  pub pieces : List (Piece scale names)
  pub written : texts raws ≡ words_by scale names pieces
  pub same : tokens_from scale known raws ≡ tokens_by scale names pieces
  pub theirs : tokens_by scale names pieces
      ≡ tokens_for scale names known.before (words_by scale names pieces)

are_read : (scale : ℕ) (names : Vocabulary) (known : Known) (raws : List RawTokenAt)
    → ArePlain raws → AreFirst names (names_from known raws) → AreRead scale names known raws
are_read scale names known [] h all =
    record { pieces = []; written = refl; same = refl; theirs = refl }
are_read scale names known (raw ∷ rest) h all =
    let next = known_after known raw.word in
    let token = next_token scale known raw.word in
    let more = are_read scale names next rest h.1 all in
    record {
      pieces = (record {
        word = text_in raw.word;
        token = token;
        stands = word_stands scale names known raw.word rest h.0 all;
      }) ∷ more.pieces;
      written = ap (λ ws. text_in raw.word ∷ ws) more.written;
      same = ap (λ ts. token ∷ ts) more.same;
      theirs = ap (λ t. t ∷ tokens_by scale names more.pieces)
          (word_token scale names known raw.word rest h.0 all)
          ∙ ap (λ ts. token_as scale names known.before (text_in raw.word) ∷ ts) (more.theirs
          ∙ ap (λ b. tokens_for scale names b (words_by scale names more.pieces))
          (next_before known.before raw.word h.0));
    }

-- ---- the text as a whole

abbrev pub words_of : List ℕ → Words
words_of text = texts (raw_tokens_of text)

pub text_read : (scale : ℕ) (text : List ℕ)
    → AreRead scale (names_among (words_of text)) nothing_known (raw_tokens_of text)
text_read scale text =
    let raws = raw_tokens_of text in
    let plain = raw_tokens_plain 0 0 text in
    are_read scale (names_among (words_of text)) nothing_known raws plain (λ kind.
    names_first kind raws plain ∙ ap (take NAMES_MAX) (sym (names_all kind raws plain)))

pub offsets_run : (raws : List RawTokenAt)
    → map (λ (raw : RawTokenAt). raw.at) raws ≡ map (λ (w : WordAt). w.0) (map word_at raws)
offsets_run [] = refl
offsets_run (raw ∷ rest) = ap (λ (l : List ℕ). raw.at ∷ l) (offsets_run rest)
