-- The variables by their numbers, and their values as one number.
use Rattle.std.proofs.Common.{◌≡◌, ◌≢◌, ◌↔◌, ◌⊎◌, ℕ, zero, suc, ◌+◌, ◌<◌, ◌≤◌, Bool, true, false, List, [], ◌∷◌, ◌++◌, length, get_or, set, Option, None, Some, inl, inr, refl, sym, ap, ◌∙◌, subst, arith, if◌then◌else◌, rules}
use Rattle.std.specs.Int.{bit_at}
use Rattle.std.proofs.lemmas.Bool.{cases_eq}
use Rattle.std.proofs.lemmas.Nat.Bits.{same_from_bits}
use Rattle.std.specs.Option.{option_or}
use Rattle.tre_state.specs.Sieve.{MayBe}
use Rattle.tre_vcd.specs.VcdReading.{}
use Rattle.tre_vcd.specs.Kept.{AreKnown, IsSieveOf, AreHaving, identifier_kept, has_identifier, identifier_at, mask_from}
use Rattle.tre_vcd.specs.declared.variable.Variable.{Variable}
use Rattle.tre_vcd.proofs.MaskBits.{passes, passes_at, bit_in}

-- ---- the identifier at a place

pub at-within : (variables : List Variable) (k : ℕ) (d : Variable) → k < length variables
    → identifier_at variables k ≡ identifier_kept (get_or variables k d)
at-within [] k d within = absurd (omega (arith, within))
at-within (variable ∷ variables) zero d within = refl
at-within (variable ∷ variables) (suc k) d within = at-within variables k d (omega (arith, within))

pub at-past : (variables : List Variable) (k : ℕ) → length variables ≤ k
    → identifier_at variables k ≡ None
at-past [] k past = refl
at-past (variable ∷ variables) zero past = absurd (omega (arith, past))
at-past (variable ∷ variables) (suc k) past = at-past variables k (omega (arith, past))

at-push : (variables : List Variable) (variable : Variable) (k : ℕ)
    → identifier_kept variable ≡ None
    → identifier_at (variables ++ variable ∷ []) k ≡ identifier_at variables k
at-push [] variable zero none = none
at-push [] variable (suc k) none = refl
at-push (first ∷ variables) variable zero none = refl
at-push (first ∷ variables) variable (suc k) none = at-push variables variable k none

at-set : (variables : List Variable) (i : ℕ) (new : Variable) → i < length variables
    → identifier_at (set variables i new) i ≡ identifier_kept new
at-set [] i new within = absurd (omega (arith, within))
at-set (variable ∷ variables) zero new within = refl
at-set (variable ∷ variables) (suc i) new within = at-set variables i new (omega (arith, within))

at-set_other : (variables : List Variable) (i k : ℕ) (new : Variable) → k ≢ i
    → identifier_at (set variables i new) k ≡ identifier_at variables k
at-set_other [] i k new other = refl
at-set_other (variable ∷ variables) zero zero new other = absurd (other refl)
at-set_other (variable ∷ variables) zero (suc k) new other = refl
at-set_other (variable ∷ variables) (suc i) zero new other = refl
at-set_other (variable ∷ variables) (suc i) (suc k) new other =
    at-set_other variables i k new (λ same. other (ap suc same))

has-is : (o : Option (List ℕ)) (identifier : List ℕ) (same : Bool)
    → same ≡ has_identifier o identifier → (same ≡ true) ↔ (o ≡ Some identifier)
has-is None identifier same is = (λ yes. cc, λ some. cc)
has-is (Some own) identifier same is = search rules

pub has-at : (variables : List Variable) (k : ℕ) (d : Variable) (identifier : List ℕ) (same : Bool)
    → k < length variables → same ≡ has_identifier
    (identifier_kept (get_or variables k d)) identifier
    → (same ≡ true) ↔ (identifier_at variables k ≡ Some identifier)
has-at variables k d identifier same within is = search (rules, at-within, has-is, identifier_kept)

pub has-none : (variables : List Variable) (k : ℕ) (identifier : List ℕ) → length variables ≤ k
    → (false ≡ true) ↔ (identifier_at variables k ≡ Some identifier)
has-none variables k identifier past = rw (at-past variables k past) (λ wrong. cc, λ some. cc)

-- ---- the sieve

pub sieve-push : (variables : List Variable) (variable : Variable) (sieve : List ℕ)
    → identifier_kept variable ≡ None → IsSieveOf variables sieve
    → IsSieveOf (variables ++ variable ∷ []) sieve
sieve-push variables variable sieve none is = search (rules, at-push, is.each)

one-of : (o : Option (List ℕ)) (identifier own : List ℕ) → option_or o (Some identifier) ≡ Some own
    → (o ≡ Some own) ⊎ (identifier ≡ own)
one-of None identifier own is = inr cc
one-of (Some other) identifier own is = inl is

pub sieve-set : (variables : List Variable) (i : ℕ) (d new : Variable) (identifier : List ℕ)
    (old now : List ℕ) → i < length variables
    → identifier_kept new ≡ option_or (identifier_kept (get_or variables i d)) (Some identifier)
    → IsSieveOf variables old → MayBe now identifier i
    → ((other : List ℕ) (k : ℕ) → MayBe old other k → MayBe now other k)
    → IsSieveOf (set variables i new) now
sieve-set variables i d new identifier old now within made is added kept = record {
  each = λ k own at. elim (cases_eq k i) [
    | inl same ↦
        let here : identifier_at (set variables i new) i ≡ Some own =
        ap (identifier_at (set variables i new)) (sym same) ∙ at in
        elim (one-of (identifier_kept (get_or variables i d)) identifier own
        (sym made ∙ sym (at-set variables i new within) ∙ here)) [
          | inl before ↦
              let held : identifier_at variables k ≡ Some own =
              ap (identifier_at variables) same ∙ at-within variables i d within ∙ before in
              kept own k (is.each k own held)
          | inr given ↦
              subst (λ n. MayBe now own n) (sym same)
              (subst (λ (text : List ℕ). MayBe now text i) given added)
        ]
    | inr other ↦
        kept own k (is.each k own (sym (at-set_other variables i k new other) ∙ at))
  ];
}

-- ---- masks

-- Where a test changes for one identifier.
module _ (identified : List ℕ → Option (List ℕ)) (before now : List ℕ → Bool)
    (identifier : List ℕ) (value : Bool) (is : now identifier ≡ value)
    (others : (other : List ℕ) → other ≢ identifier → now other ≡ before other) where
  changed-one : (names : List (List ℕ)) (variables : List Variable) (k : ℕ)
      → AreKnown identified names variables → identifier_at variables k ≡ Some identifier
      → passes_at identified now names k ≡ value
  changed-one [] variables k known at = search rules
  changed-one (name ∷ names) [] k known at = absurd (cc (at))
  changed-one (name ∷ names) (variable ∷ variables) zero known at = search rules
  changed-one (name ∷ names) (variable ∷ variables) (suc k) known at =
      changed-one names variables k known.1 at

  changed-other : (names : List (List ℕ)) (variables : List Variable) (k : ℕ)
      → AreKnown identified names variables → (identifier_at variables k ≡ Some identifier → ⊥)
      → passes_at identified now names k ≡ passes_at identified before names k
  changed-other [] variables k known apart = refl
  changed-other (name ∷ names) [] zero known apart = search rules
  changed-other (name ∷ names) [] (suc k) known apart =
      changed-other names [] k known.1 (λ at. cc)
  changed-other (name ∷ names) (variable ∷ variables) zero known apart = search rules
  changed-other (name ∷ names) (variable ∷ variables) (suc k) known apart =
      changed-other names variables k known.1 apart

  -- where the bits of just those variables that have the identifier become its value
  pub mask-changed : (names : List (List ℕ)) (variables : List Variable) (old new bits : ℕ)
      → AreKnown identified names variables → old ≡ mask_from identified before 0 names
      → AreHaving variables identifier bits
      → ((k : ℕ) → bit_at bits k ≡ 1 → bit_at new k ≡ (if value then 1 else 0))
      → ((k : ℕ) → bit_at bits k ≢ 1 → bit_at new k ≡ bit_at old k)
      → new ≡ mask_from identified now 0 names
  mask-changed names variables old new bits known was having changed kept =
      same_from_bits new (mask_from identified now 0 names)
      (λ k. elim (cases_eq (bit_at bits k) 1) [
        | inl set ↦
            changed k set
            ∙ sym (bit_in identified now names k
            ∙ ap (λ (b : Bool). if b then 1 else 0)
            (changed-one names variables k known (having.sound k set)))
        | inr clear ↦
            kept k clear ∙ ap (λ n. bit_at n k) was ∙ bit_in identified before names k
            ∙ sym (bit_in identified now names k
            ∙ ap (λ (b : Bool). if b then 1 else 0)
            (changed-other names variables k known (λ at. clear (having.whole k at))))
      ])

passes-same : (one other : List ℕ → Bool) (o : Option (List ℕ))
    → ((identifier : List ℕ) → other identifier ≡ one identifier) → passes other o ≡ passes one o
passes-same one other None same = refl
passes-same one other (Some identifier) same = same identifier

-- where names have the same identifiers, and these pass the same test
pub mask-same : (old new : List ℕ → Option (List ℕ)) (one other : List ℕ → Bool) (i : ℕ)
    (names : List (List ℕ)) → ((name : List ℕ) → new name ≡ old name)
    → ((identifier : List ℕ) → other identifier ≡ one identifier)
    → mask_from old one i names ≡ mask_from new other i names
mask-same old new one other i [] names-same same = refl
mask-same old new one other i (name ∷ names) names-same same =
    let head : passes other (new name) ≡ passes one (old name) =
    ap (passes other) (names-same name) ∙ passes-same one other (old name) same in
    rw (head, mask-same old new one other (i + 1) names names-same same) refl

passes-quiet : (test : List ℕ → Bool) (o : Option (List ℕ))
    → ((identifier : List ℕ) → test identifier ≡ false) → passes test o ≡ false
passes-quiet test None quiet = refl
passes-quiet test (Some identifier) quiet = quiet identifier

-- where no identifier passes the test
pub mask-quiet : (identified : List ℕ → Option (List ℕ)) (test : List ℕ → Bool) (i : ℕ)
    (names : List (List ℕ)) → ((identifier : List ℕ) → test identifier ≡ false)
    → mask_from identified test i names ≡ 0
mask-quiet identified test i [] quiet = refl
mask-quiet identified test i (name ∷ names) quiet =
    rw (passes-quiet test (identified name) quiet, mask-quiet identified test (i + 1) names quiet)
    refl

-- where no name has an identifier
pub mask-empty : (identified : List ℕ → Option (List ℕ)) (test : List ℕ → Bool) (i : ℕ)
    (names : List (List ℕ)) → AreKnown identified names []
    → mask_from identified test i names ≡ 0
mask-empty identified test i [] known = refl
mask-empty identified test i (name ∷ names) known =
    let none : passes test (identified name) ≡ false = ap (passes test) known.0 in
    rw (none, mask-empty identified test (i + 1) names known.1) refl
