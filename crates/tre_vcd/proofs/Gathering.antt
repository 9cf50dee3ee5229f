-- Names that are gathered in a set.
use Rattle.std.proofs.Common.{◌≡◌, ◌≢◌, ◌≤◌, ◌⊎◌, inl, inr, ℕ, ◌+◌, Bool, true, false, ◌&&◌, ◌||◌, List, [], ◌∷◌, ◌++◌, length, map, get_or, take, Option, None, Some, if◌then◌else◌, refl, sym, ap, ◌∙◌, subst, arith, rules}
use Rattle.std.specs.Prelude.{All, AllPairs, slice_get}
use Rattle.std.specs.List.{AllByRecursion, IsDistinct, list_all, list_any}
use Rattle.std.specs.Str.{bytes_eq}
use Rattle.std.proofs.lemmas.Slice.Eq.{bytes_eq-Decides}
use Rattle.std.proofs.lemmas.List.{take_more, take_all}
use Rattle.std.proofs.lemmas.Map.Keys.{IsDistinct-head, IsDistinct-tail}
use Rattle.std.proofs.lemmas.Bool.{false≢true}
use Rattle.std.proofs.lemmas.List.Elements.{All-cons, All-nil, All-push}
use Rattle.std.proofs.lemmas.List.Kept.{AllPairs-cons}
use Rattle.std.proofs.lemmas.Option.{get_or_from_slice_get, slice_get_within}
use Rattle.std.specs.Option.{is_some, option_map}
use Rattle.tre_define.specs.Signals.{SignalDefined, signal_definition_of}
use Rattle.tre_vcd.specs.Sorted.{AreSorted, JoinsNames, wanted}

and-true : (b : Bool) → (b && true) ≡ b
and-true true = refl
and-true false = refl

and-assoc : (a b c : Bool) → ((a && b) && c) ≡ (a && (b && c))
and-assoc true b c = refl
and-assoc false b c = refl

-- a test that all names pass is passed by one of them
has-step : (test : List ℕ → Bool) (first name : List ℕ) (names : List (List ℕ)) (here : Bool)
    → bytes_eq name first ≡ here → (here || list_any (bytes_eq name) names) ≡ true
    → (list_any (bytes_eq name) names ≡ true
    → (list_all test names && test name) ≡ list_all test names)
    → ((test first && list_all test names) && test name) ≡ (test first && list_all test names)
has-step test first name names true is has rest = search rules
has-step test first name names false is has rest = search rules

pub has-all : (test : List ℕ → Bool) (name : List ℕ) (names : List (List ℕ))
    → list_any (bytes_eq name) names ≡ true
    → (list_all test names && test name) ≡ list_all test names
has-all test name [] has = cc (has)
has-all test name (first ∷ names) has =
    has-step test first name names (bytes_eq name first) refl has (has-all test name names)

pub all-push : (test : List ℕ → Bool) (names : List (List ℕ)) (name : List ℕ)
    → list_all test (names ++ name ∷ []) ≡ (list_all test names && test name)
all-push test [] name = and-true (test name)
all-push test (first ∷ names) name =
    ap (λ b. test first && b) (all-push test names name)
    ∙ sym (and-assoc (test first) (list_all test names) (test name))

pub joins-none : (names : List (List ℕ)) → JoinsNames names [] names
joins-none names = record { each = λ test. sym (and-true (list_all test names)) }

pub joins-next : (old added mid new : List (List ℕ)) (name : List ℕ) → JoinsNames old added mid
    → ((test : List ℕ → Bool) → list_all test new ≡ (list_all test mid && test name))
    → JoinsNames old (added ++ name ∷ []) new
joins-next old added mid new name joins next = search (rules, and-assoc, all-push, joins.each)

pub joins-more : (old names mid new : List (List ℕ)) (i : ℕ) (name bytes : List ℕ)
    → Some name ≡ slice_get names i → bytes ≡ name → JoinsNames old (take i names) mid
    → ((test : List ℕ → Bool) → list_all test new ≡ (list_all test mid && test bytes))
    → JoinsNames old (take (i + 1) names) new
joins-more old names mid new i name bytes here is joins next =
    let below = slice_get_within names i name (sym here) in
    let same : get_or names i [] ≡ bytes =
    get_or_from_slice_get names i name [] (sym here) ∙ sym is in
    subst (λ added. JoinsNames old added new)
    (sym (take_more names i [] below
    ∙ ap (λ (own : List ℕ). take i names ++ own ∷ []) same))
    (joins-next old (take i names) mid new bytes joins next)

pub joins-all : (old names new : List (List ℕ)) (i : ℕ) → length names ≤ i
    → JoinsNames old (take i names) new → JoinsNames old names new
joins-all old names new i past joins =
    subst (λ added. JoinsNames old added new) (take_all i names past) joins

-- ---- sets of names

module _ {X : Type 0} (f : X → List ℕ) where
  pub has-map : (name : List ℕ) (keys : List X)
      → list_any (bytes_eq name) (map f keys) ≡ list_any (λ key. bytes_eq name (f key)) keys
  has-map name [] = refl
  has-map name (key ∷ keys) = ap (λ b. bytes_eq name (f key) || b) (has-map name keys)

  others-differ : (name : List ℕ) (keys : List X)
      → AllByRecursion (λ key. bytes_eq name (f key) ≡ false) keys
      → All (λ other. name ≢ other) (map f keys)
  others-differ name [] all = All-nil _
  others-differ name (key ∷ keys) all =
      All-cons (λ other. name ≢ other) (f key) (map f keys)
      (λ same. false≢true (sym all.0 ∙ (bytes_eq-Decides name (f key)).1 same))
      (others-differ name keys all.1)

  pub keys-differ : (keys : List X) → IsDistinct (λ one other. bytes_eq (f one) (f other)) keys
      → AllPairs (λ name other. name ≢ other) (map f keys)
  keys-differ [] distinct = λ i j d before within. absurd (omega (arith, within))
  keys-differ (key ∷ keys) distinct =
      AllPairs-cons (λ name other. name ≢ other) (f key) (map f keys)
      (others-differ (f key) keys
      (IsDistinct-head (λ one other. bytes_eq (f one) (f other)) key keys distinct))
      (keys-differ keys
      (IsDistinct-tail (λ one other. bytes_eq (f one) (f other)) key keys distinct))

-- ---- definitions

-- what is found for a name is of that name
named-step : (name : List ℕ) (first one : SignalDefined) (all : List SignalDefined) (same : Bool)
    → bytes_eq first.name name ≡ same
    → (signal_definition_of all name ≡ Some one → one.name ≡ name)
    → (if same then Some first else signal_definition_of all name) ≡ Some one → one.name ≡ name
named-step name first one all true same more is = search rules
named-step name first one all false same more is = more is

pub named-is : (name : List ℕ) (one : SignalDefined) (all : List SignalDefined)
    → signal_definition_of all name ≡ Some one → one.name ≡ name
named-is name one [] is = absurd (cc (is))
named-is name one (first ∷ all) is =
    named-step name first one all (bytes_eq first.name name) refl (named-is name one all) is

pub mapped-some : {X Y : Type 0} (f : X → Y) (o : Option X)
    → is_some (option_map f o) ≡ is_some o
mapped-some f None = refl
mapped-some f (Some x) = refl

-- a test that all names pass is passed by the name of one of them
among-step : (test : List ℕ → Bool) (name own : List ℕ) (rest : Bool) (here : Bool)
    → bytes_eq own name ≡ here
    → (here ≡ false → (rest && test name) ≡ rest)
    → ((test own && rest) && test name) ≡ (test own && rest)
among-step test name own rest true is more = search rules
among-step test name own rest false is more = search rules

found-later : (name : List ℕ) (first : SignalDefined) (all : List SignalDefined) (here : Bool)
    → bytes_eq first.name name ≡ here
    → is_some (if here then Some first else signal_definition_of all name) ≡ true
    → here ≡ false → is_some (signal_definition_of all name) ≡ true
found-later name first all true is some none = absurd (cc (none))
found-later name first all false is some none = some

pub among-all : (test : List ℕ → Bool) (name : List ℕ) (all : List SignalDefined)
    → is_some (signal_definition_of all name) ≡ true
    → (list_all test (map (λ one. one.name) all) && test name)
    ≡ list_all test (map (λ one. one.name) all)
among-all test name [] some = absurd (cc (some))
among-all test name (first ∷ all) some =
    among-step test name first.name (list_all test (map (λ one. one.name) all))
    (bytes_eq first.name name) refl
    (λ none. among-all test name all
    (found-later name first all (bytes_eq first.name name) refl some none))

-- ---- names, some of which are defined

wanted-parts : (test : List ℕ → Bool) (names : List (List ℕ)) (own : List SignalDefined)
    → list_all test (wanted names own)
    ≡ (list_all test names && list_all test (map (λ one. one.name) own))
wanted-parts test [] own = refl
wanted-parts test (first ∷ names) own =
    ap (λ b. test first && b) (wanted-parts test names own)
    ∙ sym (and-assoc (test first) (list_all test names)
    (list_all test (map (λ one. one.name) own)))

pub wanted-defined : (names : List (List ℕ)) (old new : List SignalDefined) (name own : List ℕ)
    → own ≡ name
    → ((test : List ℕ → Bool) → list_all test (map (λ one. one.name) new)
    ≡ (list_all test (map (λ one. one.name) old) && test own))
    → (test : List ℕ → Bool) → list_all test (wanted names new)
    ≡ (list_all test (wanted names old) && test name)
wanted-defined names old new name own is joins test =
    search (rules, wanted-parts, and-assoc, wanted)

swapped : (a b c : Bool) → ((a && c) && b) ≡ ((a && b) && c)
swapped true true true = refl
swapped true true false = refl
swapped true false true = refl
swapped true false false = refl
swapped false b c = refl

-- one more of the definitions, or one more of the other names
pub sorted-defined : (all : List SignalDefined) (names : List (List ℕ))
    (old new : List SignalDefined) (one : SignalDefined) (name : List ℕ)
    → signal_definition_of all name ≡ Some one
    → (new ≡ old) ⊎ (new ≡ old ++ one ∷ []) → AreSorted all names old → AreSorted all names new
sorted-defined all names old new one name is (inl same) sorted = search rules
sorted-defined all names old new one name is (inr more) sorted =
    subst (AreSorted all names) (sym more) (record {
      plain = sorted.plain;
      defined = All-push (λ it. signal_definition_of all it.name ≡ Some it) old one sorted.defined
          (ap (signal_definition_of all) (named-is name one all is) ∙ is);
    })
