-- Names that are told to be declared.
use Rattle.std.proofs.Common.{◌≡◌, ◌≢◌, ℕ, ◌-◌, ◌<◌, ◌++◌, Bool, true, false, ◌||◌, List, [], ◌∷◌, length, get_or, set, map, take, replicate, None, Some, inl, inr, refl, sym, ap, ◌∙◌, arith, rules}
use Rattle.std.specs.Prelude.{AllPairs, ◌≤◌, All}
use Rattle.std.specs.List.{list_all}
use Rattle.std.specs.Option.{is_some}
use Rattle.std.specs.Str.{bytes_eq}
use Rattle.std.proofs.lemmas.Bool.{cases_eq}
use Rattle.std.proofs.lemmas.List.Folds.{list_all-map}
use Rattle.std.proofs.lemmas.List.{ext_get_or, length-map, length-set, get_or-map, get_or-set_same, get_or-set_other}
use Rattle.tre_state.specs.Names.{place_of}
use Rattle.tre_vcd.specs.VcdReading.{Statement, var, scopes_at, identifier_in}
use Rattle.tre_vcd.specs.Kept.{identifier_of, Declares, DeclaresNone, DeclaresNoneWithin, flags_of}
use Rattle.tre_vcd.proofs.Naming.{named-at, named-none}

-- a list that holds a test of other elements, and what it holds at a place
record IsTold (test : List ℕ → Bool) (names : List (List ℕ)) (flags : List Bool) : Type 0 where
  long : length flags ≡ length names
  each : (k : ℕ) → k < length names → get_or flags k false ≡ test (get_or names k [])

told : (test : List ℕ → Bool) (names : List (List ℕ)) (flags : List Bool)
    → flags ≡ map test names → IsTold test names flags
told test names flags is = record {
  long = ap length is ∙ length-map names test;
  each = λ k below.
      ap (λ all. get_or all k false) is ∙ get_or-map test names k [] false below;
}

of_told : (test : List ℕ → Bool) (names : List (List ℕ)) (flags : List Bool)
    → IsTold test names flags → flags ≡ map test names
of_told test names flags is =
    ext_get_or false flags (map test names) (is.long ∙ sym (length-map names test))
    (λ k below.
    let within : k < length names = omega (arith, below, is.long) in
    is.each k within ∙ sym (get_or-map test names k [] false within))

or-false : (b : Bool) → (b || false) ≡ b
or-false true = refl
or-false false = refl

or-true : (b : Bool) → (b || true) ≡ true
or-true true = refl
or-true false = refl

-- the name of the bytes is told, and the others stay
pub flags-set : (test : List ℕ → Bool) (names : List (List ℕ)) (bytes : List ℕ)
    (flags : List Bool) (place : ℕ) → AllPairs (λ name other. name ≢ other) names
    → Some place ≡ place_of names bytes → flags ≡ map test names
    → set flags place true ≡ map (λ name. test name || bytes_eq name bytes) names
flags-set test names bytes flags place distinct here is =
    let old = told test names flags is in
    let at = named-at names bytes place distinct here in
    of_told (λ name. test name || bytes_eq name bytes) names (set flags place true) (record {
      long = length-set flags place true ∙ old.long;
      each = λ k below. elim (cases_eq k place) [
        | inl same ↦
            ap (λ i. get_or (set flags place true) i false) same
            ∙ get_or-set_same flags place true false (omega (arith, at.within, old.long))
            ∙ sym (ap (λ b. test (get_or names k []) || b)
            (ap (λ i. bytes_eq (get_or names i []) bytes) same ∙ at.found)
            ∙ or-true (test (get_or names k [])))
        | inr other ↦
            get_or-set_other flags place k true false other
            ∙ old.each k below
            ∙ sym (ap (λ b. test (get_or names k []) || b) (at.alone k below other)
            ∙ or-false (test (get_or names k [])))
      ];
    })

-- no name has the bytes
pub flags-stay : (test : List ℕ → Bool) (names : List (List ℕ)) (bytes : List ℕ)
    (flags : List Bool) → None ≡ place_of names bytes → flags ≡ map test names
    → flags ≡ map (λ name. test name || bytes_eq name bytes) names
flags-stay test names bytes flags none is =
    let old = told test names flags is in
    of_told (λ name. test name || bytes_eq name bytes) names flags (record {
      long = old.long;
      each = λ k below.
          old.each k below
          ∙ sym (ap (λ b. test (get_or names k []) || b) (named-none names bytes none k below)
          ∙ or-false (test (get_or names k [])));
    })

-- ---- one declaration later

pub flags-same : (test : List ℕ → List ℕ → Bool) (past now : List Statement)
    (names : List (List ℕ)) (flags : List Bool)
    → ((name : List ℕ) → identifier_of test now name ≡ identifier_of test past name)
    → flags ≡ flags_of test past names → flags ≡ flags_of test now names
flags-same test past now names flags same is = search rules

pub flags-declared : (test : List ℕ → List ℕ → Bool) (past : List Statement)
    (identifier path : List ℕ) (tokens names : List (List ℕ)) (flags : List Bool)
    → Declares test (scopes_at past) tokens identifier path
    → flags ≡ map (λ name. is_some (identifier_of test past name) || bytes_eq name path) names
    → flags ≡ flags_of test (var tokens ∷ past) names
flags-declared test past identifier path tokens names flags declares is = search rules

undeclared : (test : List ℕ → List ℕ → Bool) (past : List Statement)
    (tokens : List (List ℕ)) (name : List ℕ)
    → identifier_in test (scopes_at past) name tokens ≡ None
    → identifier_of test (var tokens ∷ past) name ≡ identifier_of test past name
undeclared test past tokens name none = search rules

pub flags-undeclared : (test : List ℕ → List ℕ → Bool) (past : List Statement)
    (tokens names : List (List ℕ)) (flags : List Bool)
    → DeclaresNone test (scopes_at past) tokens
    → flags ≡ flags_of test past names → flags ≡ flags_of test (var tokens ∷ past) names
flags-undeclared test past tokens names flags none is = search rules

-- where no name is as long as the one that is declared
pub flags-within : (test : List ℕ → List ℕ → Bool) (past : List Statement) (longest : ℕ)
    (tokens names : List (List ℕ)) (flags : List Bool)
    → DeclaresNoneWithin longest test (scopes_at past) tokens
    → All (λ name. length name ≤ longest) names
    → flags ≡ flags_of test past names → flags ≡ flags_of test (var tokens ∷ past) names
flags-within test past longest tokens names flags none within is =
    let old = told (λ name. is_some (identifier_of test past name)) names flags is in
    of_told (λ name. is_some (identifier_of test (var tokens ∷ past) name)) names flags (record {
      long = old.long;
      each = λ k below.
          old.each k below
          ∙ ap is_some (sym (undeclared test past tokens (get_or names k [])
          (none.is (get_or names k []) (within k [] below))));
    })

pub all-flags : (test : List ℕ → List ℕ → Bool) (past : List Statement) (names : List (List ℕ))
    (flags : List Bool) → flags ≡ flags_of test past names
    → list_all (λ flag. flag) flags
    ≡ list_all (λ name. is_some (identifier_of test past name)) names
all-flags test past names flags is = search (rules, list_all-map, identifier_of)

-- as many as that, and all false
pub all-false : (n m : ℕ) (old : List Bool) → old ≡ [] → m ≡ 0
    → take n old ++ replicate (n - m) false ≡ replicate n false
all-false n m old none zero_ = search rules
