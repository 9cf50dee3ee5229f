-- The number of a name in the text is its place in the list of names.
use Rattle.std.proofs.Common.{◌≡◌, ℕ, ◌+◌, ◌<◌, Bool, true, false, cond, ◌&&◌, ◌⊎◌, inl, inr, Option, Some, None, List, [], ◌∷◌, ◌++◌, length, refl, sym, ◌∙◌, ap, arith, length-append, rules}
use Rattle.std.specs.Prelude.{nat_lt, if◌then◌else◌, is_none}
use Rattle.std.specs.List.{position_or_len}
use Rattle.std.specs.Str.{bytes_eq}
use Rattle.std.proofs.lemmas.Bool.Decides.{nat_tests}
use Rattle.std.proofs.lemmas.List.Folds.{position_or_len_push}
use Rattle.tre_state.specs.declared.names.TheConstants.{NAMES_MAX}
use Rattle.tre_state.specs.Names.{place_of}
use Rattle.tre_state.proofs.Places.{place_of-push}
use Rattle.tre_trace.specs.Reading.{Vocabulary}
use Rattle.tre_syntax.specs.declared.name_kind.NameKind.{NameKind}
use Rattle.tre_syntax.specs.declared.name_kind.NameKind.TheVariants.{Proposition, Event as EventKind}
use Rattle.tre_parse.specs.Tokens.{RawToken, name, event_name, number, sign, RawTokenAt}
use Rattle.tre_parse.specs.Known.{kind_behind, names_of_kind, names_with, vocabulary_with, Known, vocabulary_after, known_after, names_from}

-- A name that is held keeps its place when one more is put at the end.
below : (n m i : ℕ) (is : Bool) → nat_lt n m ≡ is → cond is (Some n) None ≡ Some i → (n < m)
    × (n ≡ i)
below n m i true t e = (grind (arith, nat_tests), cc)
below n m i false t e = absurd (cc)

kept_len : (p : List ℕ → Bool) (xs : List (List ℕ)) (y : List ℕ) → position_or_len p xs < length xs
    → position_or_len p (xs ++ y ∷ []) ≡ position_or_len p xs
kept_len p xs y lt = grind (arith, position_or_len_push p xs y)

kept_place : (known : List (List ℕ)) (bytes other : List ℕ) (i : ℕ) → place_of known bytes ≡ Some i
    → place_of (known ++ other ∷ []) bytes ≡ Some i
kept_place known bytes other i e =
    let b = below (position_or_len (bytes_eq bytes) known) (length known) i _ refl e in
    found (kept_len (bytes_eq bytes) known other b.0 ∙ b.1) (length-append known (other ∷ []))
    (omega (arith, b.0, b.1))
  where
    found : {n m : ℕ} → n ≡ i → m ≡ length known + 1 → i < length known
        → cond (nat_lt n m) (Some n) None ≡ Some i
    found same more lt = grind (arith, nat_tests)

-- A name has its place for good, where it has one or no more names are taken.
abbrev pub HasPlace : List (List ℕ) → List ℕ → Type 0
HasPlace known bytes = ((i : ℕ) × (place_of known bytes ≡ Some i)) ⊎
    (nat_lt (length known) NAMES_MAX ≡ false)

no_room : (known : List (List ℕ)) (other : List ℕ) (none room : Bool) → room ≡ false
    → (if none && room then known ++ other ∷ [] else known) ≡ known
no_room known other true room e = ap (λ (r : Bool). if r then known ++ other ∷ [] else known) e
no_room known other false room e = refl

some_kept : (known : List (List ℕ)) (bytes other : List ℕ) (i : ℕ) (is : Bool)
    → place_of known bytes ≡ Some i → place_of (if is then known ++ other ∷ [] else known) bytes
    ≡ Some i
some_kept known bytes other i true e = kept_place known bytes other i e
some_kept known bytes other i false e = e

name_on : (known : List (List ℕ)) (bytes other : List ℕ) → HasPlace known bytes
    → HasPlace (names_with known other) bytes × (place_of (names_with known other) bytes
    ≡ place_of known bytes)
name_on known bytes other (inl s) =
    let e = some_kept known bytes other s.0 (is_none (place_of known other) && nat_lt (length known)
    NAMES_MAX) s.1 in (inl (s.0, e), e ∙ sym s.1)
name_on known bytes other (inr full) = search rules

-- ---- the names of each kind

-- A name of one kind changes no other names.
pub kind_by : (P : List (List ℕ) → Type 0) (kind at : NameKind) (known : Vocabulary)
    (bytes : List ℕ) → P (names_of_kind kind known) → P (names_with (names_of_kind kind known) bytes)
    → P (names_of_kind kind (vocabulary_with at known bytes))
kind_by P Proposition Proposition known bytes same more = more
kind_by P Proposition EventKind known bytes same more = same
kind_by P EventKind Proposition known bytes same more = same
kind_by P EventKind EventKind known bytes same more = more

pub own_kind : (kind : NameKind) (known : Vocabulary) (bytes : List ℕ)
    → names_of_kind kind (vocabulary_with kind known bytes)
    ≡ names_with (names_of_kind kind known) bytes
own_kind Proposition known bytes = refl
own_kind EventKind known bytes = refl

word_on : (kind : NameKind) (known : Known) (word : RawToken) (bytes : List ℕ)
    → HasPlace (names_of_kind kind known.vocabulary) bytes →
    HasPlace (names_of_kind kind (vocabulary_after known word)) bytes
    × (place_of (names_of_kind kind (vocabulary_after known word)) bytes
    ≡ place_of (names_of_kind kind known.vocabulary) bytes)
word_on kind known (number digits) bytes h = (h, refl)
word_on kind known (sign token) bytes h = (h, refl)
word_on kind known (event_name other) bytes h = (h, refl)
word_on kind known (name other) bytes h =
    search (rules, place_of, names_of_kind, kind_by, kind_behind, name_on, known.vocabulary)

pub for_good : (kind : NameKind) (known : Known) (raw_tokens : List RawTokenAt) (bytes : List ℕ)
    → HasPlace (names_of_kind kind known.vocabulary) bytes
    → place_of (names_of_kind kind (names_from known raw_tokens)) bytes
    ≡ place_of (names_of_kind kind known.vocabulary) bytes
for_good kind known [] bytes h = refl
for_good kind known (raw ∷ rest) bytes h =
    let w = word_on kind known raw.word bytes h in
    for_good kind (known_after known raw.word) rest bytes w.0 ∙ w.1

-- After a name was read it has its place.
pub placed : (known : List (List ℕ)) (bytes : List ℕ) (found : Option ℕ) (room : Bool)
    → place_of known bytes ≡ found → nat_lt (length known) NAMES_MAX ≡ room →
    HasPlace (if is_none found && room then known ++ bytes ∷ [] else known) bytes
placed known bytes (Some i) room e f = inl (i, e)
placed known bytes None true e f = inl (length known, place_of-push known bytes e)
placed known bytes None false e f = inr f
