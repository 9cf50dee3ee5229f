-- What is kept of the identifiers of names, one declaration later.
use Rattle.std.proofs.Common.{◌≡◌, ◌≢◌, ℕ, zero, suc, ◌<◌, ◌≤◌, Bool, true, false, List, [], ◌∷◌, ◌++◌, length, get_or, set, Option, None, Some, refl, sym, ap, ◌∙◌, arith, rules}
use Rattle.std.specs.Prelude.{All}
use Rattle.std.specs.Option.{option_or}
use Rattle.std.specs.Str.{bytes_eq}
use Rattle.tre_vcd.specs.Kept.{AreKnown, IsSieveOf, KeepsNames, and_declared, identifier_kept}
use Rattle.tre_vcd.specs.declared.variable.Variable.{Variable}
use Rattle.tre_vcd.specs.declared.variables.Variables.{Variables}

pub known-among : (old new : List ℕ → Option (List ℕ)) (names : List (List ℕ))
    (variables : List Variable) → All (λ name. new name ≡ old name) names
    → AreKnown old names variables → AreKnown new names variables
known-among old new [] variables same known = known
known-among old new (name ∷ names) [] same known = (
  same 0 [] (omega arith) ∙ known.0,
  known-among old new names [] (λ k d below. same (suc k) d (omega (arith, below))) known.1,
)
known-among old new (name ∷ names) (variable ∷ variables) same known = (
  known.0 ∙ sym (same 0 [] (omega arith)),
  known-among old new names variables (λ k d below. same (suc k) d (omega (arith, below)))
      known.1,
)

pub keeps-among : (old new : List ℕ → Option (List ℕ)) (names : List (List ℕ))
    (kept : Variables) → All (λ name. new name ≡ old name) names → KeepsNames old names kept
    → KeepsNames new names kept
keeps-among old new names kept same keeps = record {
  known = known-among old new names kept.list.items same keeps.known;
  sieve = keeps.sieve;
}

pub keeps-same : (old new : List ℕ → Option (List ℕ)) (names : List (List ℕ)) (kept : Variables)
    → ((name : List ℕ) → new name ≡ old name) → KeepsNames old names kept
    → KeepsNames new names kept
keeps-same old new names kept same keeps = search rules

known-none : (names : List (List ℕ)) → AreKnown (λ name. None) names []
known-none [] = refl
known-none (name ∷ names) = (refl, known-none names)

sieve-none : (sieve : List ℕ) → IsSieveOf [] sieve
sieve-none sieve = record { each = λ k identifier at. cc }

pub keeps-none : (names : List (List ℕ)) (kept : Variables) → kept.list.items ≡ []
    → KeepsNames (λ name. None) names kept
keeps-none names kept empty = search (rules, known-none, sieve-none)

-- one more variable, for a name that has none
pub known-push : (identified : List ℕ → Option (List ℕ)) (names : List (List ℕ))
    (variables : List Variable) (variable : Variable) → variable ≡ record { identifier = None }
    → length variables < length names → AreKnown identified names variables
    → AreKnown identified names (variables ++ variable ∷ [])
known-push identified [] variables variable new below known = absurd (omega (arith, below))
known-push identified (name ∷ names) [] variable new below known = search rules
known-push identified (name ∷ names) (first ∷ variables) variable new below known = (
  known.0,
  known-push identified names variables variable new (omega (arith, below)) known.1,
)

pub known-few : (identified : List ℕ → Option (List ℕ)) (names : List (List ℕ))
    (variables : List Variable) → AreKnown identified names variables
    → length variables ≤ length names
known-few identified [] variables known = rw known (omega arith)
known-few identified (name ∷ names) [] known = omega arith
known-few identified (name ∷ names) (variable ∷ variables) known =
    omega (arith, known-few identified names variables known.1)

-- ---- a declaration

pub option_or-none : (o : Option (List ℕ)) → option_or o None ≡ o
option_or-none None = refl
option_or-none (Some identifier) = refl

-- the declaration of another name
declared-other : (identified : List ℕ → Option (List ℕ)) (bytes identifier name : List ℕ)
    → bytes_eq name bytes ≡ false → and_declared identified bytes identifier name ≡ identified name
declared-other identified bytes identifier name other = search rules

declared-own : (identified : List ℕ → Option (List ℕ)) (bytes identifier name : List ℕ)
    → bytes_eq name bytes ≡ true
    → and_declared identified bytes identifier name ≡ option_or (identified name) (Some identifier)
declared-own identified bytes identifier name same = search rules

pub known-other : (identified : List ℕ → Option (List ℕ)) (bytes identifier : List ℕ)
    (names : List (List ℕ)) (variables : List Variable)
    → ((k : ℕ) → k < length names → bytes_eq (get_or names k []) bytes ≡ false)
    → AreKnown identified names variables
    → AreKnown (and_declared identified bytes identifier) names variables
known-other identified bytes identifier [] variables none known = known
known-other identified bytes identifier (name ∷ names) [] none known = (
  declared-other identified bytes identifier name (none 0 (omega arith)) ∙ known.0,
  known-other identified bytes identifier names []
      (λ k below. none (suc k) (omega (arith, below))) known.1,
)
known-other identified bytes identifier (name ∷ names) (variable ∷ variables) none known = (
  known.0 ∙ sym (declared-other identified bytes identifier name (none 0 (omega arith))),
  known-other identified bytes identifier names variables
      (λ k below. none (suc k) (omega (arith, below))) known.1,
)

pub known-set : (identified : List ℕ → Option (List ℕ)) (bytes identifier : List ℕ)
    (names : List (List ℕ)) (variables : List Variable) (i : ℕ) (d new : Variable)
    → i < length variables → bytes_eq (get_or names i []) bytes ≡ true
    → ((k : ℕ) → k < length names → k ≢ i → bytes_eq (get_or names k []) bytes ≡ false)
    → identifier_kept new ≡ option_or (identifier_kept (get_or variables i d)) (Some identifier)
    → AreKnown identified names variables
    → AreKnown (and_declared identified bytes identifier) names (set variables i new)
known-set identified bytes identifier [] variables i d new below one others made known =
    absurd (omega (arith, below, ap length known))
known-set identified bytes identifier (name ∷ names) [] i d new below one others made known =
    absurd (omega (arith, below))
known-set identified bytes identifier (name ∷ names) (variable ∷ variables) zero d new below one
    others made known = (
      made ∙ ap (λ o. option_or o (Some identifier)) known.0
          ∙ sym (declared-own identified bytes identifier name one),
      known-other identified bytes identifier names variables
          (λ k within. others (suc k) (omega (arith, within)) (λ e. cc)) known.1,
    )
known-set identified bytes identifier (name ∷ names) (variable ∷ variables) (suc i) d new below one
    others made known = (
      known.0
          ∙ sym (declared-other identified bytes identifier name
          (others 0 (omega arith) (λ e. cc))),
      known-set identified bytes identifier names variables i d new (omega (arith, below)) one
          (λ k within other. others (suc k) (omega (arith, within)) (λ e. other (omega (arith, e))))
          made known.1,
    )

pub false_of : (b : Bool) → (b ≡ true → ⊥) → b ≡ false
false_of true wrong = absurd (wrong refl)
false_of false wrong = refl
