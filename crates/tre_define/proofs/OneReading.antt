-- A text of definitions says one thing, where each of its parts does.
use Rattle.std.proofs.Common.{◌≡◌, ◌≢◌, ℕ, suc, ◌+◌, ◌<◌, Bool, true, false, cond, Some, None, List, [], ◌∷◌, ◌++◌, length, get_or, refl, sym, ap, subst, ◌∙◌, arith, rules}
use Rattle.std.specs.Prelude.{AllPairs}
use Rattle.std.specs.List.{AllZip}
use Rattle.std.specs.Str.{bytes_eq}
use Rattle.std.proofs.Math.ListN.{get_or-append}
use Rattle.std.proofs.Math.Seq.{get_or-append_seam}
use Rattle.std.proofs.lemmas.List.{length-append}
use Rattle.std.proofs.lemmas.Slice.Eq.{bytes_eq-Decides}
use Rattle.tre_define.specs.Texts.{Define, PartHasFault, PartsAreRefused, named}
use Rattle.tre_define.specs.declared.let_fault.LetFault.{LetFault}
use Rattle.tre_define.specs.declared.let_fault.LetFault.TheVariants.{BadLet, Twice, Memory}

-- Of all definitions, those of the first parts, and the one of the part behind them.
record Parted {D : Type 0} (Spells : List ℕ → D → Type 0) (front : List (List ℕ)) (part : List ℕ)
    (all : List D) : Type 0 where
  definitions : List D
  defined : D
  rest : List D
  is : all ≡ definitions ++ defined ∷ rest
  before : AllZip Spells front definitions
  here : Spells part defined

-- Of two fronts of one list one goes on behind the other, or they are one.
fronts : {P : Type 0} (front other back rest : List (List ℕ)) (part next : List ℕ)
    → front ++ part ∷ back ≡ other ++ next ∷ rest
    → ((mid : List (List ℕ)) → other ≡ front ++ part ∷ mid → P)
    → (front ≡ other → part ≡ next → P)
    → ((mid : List (List ℕ)) → front ≡ other ++ next ∷ mid → P) → P
fronts [] [] back rest part next e longer same shorter = search rules
fronts [] (x ∷ xs) back rest part next e longer same shorter = search rules
fronts (x ∷ xs) [] back rest part next e longer same shorter = search rules
fronts (x ∷ xs) (y ∷ ys) back rest part next e longer same shorter =
    let heads : x ≡ y = cc in
    let tails : xs ++ part ∷ back ≡ ys ++ next ∷ rest = cc in
    fronts xs ys back rest part next tails
    (λ mid is. longer mid (ap (λ h. h ∷ ys) (sym heads) ∙ ap (λ t. x ∷ t) is))
    (λ is parts. same (ap (λ h. h ∷ xs) heads ∙ ap (λ t. y ∷ t) is) parts)
    (λ mid is. shorter mid (ap (λ h. h ∷ xs) heads ∙ ap (λ t. y ∷ t) is))

module _ {D : Type 0} (Spells : List ℕ → D → Type 0) (name_of : D → List ℕ)
    (same-definition : (part : List ℕ) (one other : D) → Spells part one → Spells part other
    → one ≡ other) where
  pub same-definitions : (parts : List (List ℕ)) (one other : List D) → AllZip Spells parts one
      → AllZip Spells parts other → one ≡ other
  same-definitions [] [] [] is also = refl
  same-definitions [] [] (_ ∷ _) is also = absurd also
  same-definitions [] (_ ∷ _) other is also = absurd is
  same-definitions (part ∷ parts) [] other is also = absurd is
  same-definitions (part ∷ parts) (_ ∷ _) [] is also = absurd also
  same-definitions (part ∷ parts) (a ∷ one) (b ∷ other) is also =
      ap (λ x. x ∷ one) (same-definition part a b is.0 also.0)
      ∙ ap (λ xs. b ∷ xs) (same-definitions parts one other is.1 also.1)

  -- ---- definitions, or one fault

  unfound : (definitions : List D) (name : List ℕ) (d : D)
      → ((k : ℕ) → k < length definitions → name_of (get_or definitions k d) ≢ name)
      → named name_of definitions name ≡ None
  unfound [] name d none = refl
  unfound (defined ∷ definitions) name d none =
      by (bytes_eq (name_of defined) name) refl
      (unfound definitions name d (λ k below. none (suc k) (omega (arith, below))))
    where
      by : (same : Bool) → bytes_eq (name_of defined) name ≡ same
          → named name_of definitions name ≡ None
          → cond same (Some defined) (named name_of definitions name) ≡ None
      by true e rest =
          absurd (none 0 (omega arith) ((bytes_eq-Decides (name_of defined) name).0 e))
      by false e rest = rest

  -- none of the first ones has the name of one behind them
  fresh : (definitions rest : List D) (defined : D)
      → AllPairs (λ one other. name_of one ≢ name_of other) (definitions ++ defined ∷ rest)
      → named name_of definitions (name_of defined) ≡ None
  fresh definitions rest defined apart =
      unfound definitions (name_of defined) defined (λ k below same.
      let all = definitions ++ defined ∷ rest in
      let place : length definitions < length all =
      omega (arith, length-append definitions (defined ∷ rest)) in
      apart k (length definitions) defined below place
      (ap (λ d. (name_of d)) (get_or-append definitions (defined ∷ rest) defined k below)
      ∙ same
      ∙ sym (ap (λ d. (name_of d)) (get_or-append_seam definitions defined rest defined))))

  -- a definition that is apart from those before it has no fault
  no_fault : (definitions rest : List D) (defined : D) (number : ℕ) (part : List ℕ)
      (fault : LetFault)
      → AllPairs (λ one other. name_of one ≢ name_of other) (definitions ++ defined ∷ rest)
      → Spells part defined → PartHasFault Spells name_of definitions number part fault → ⊥
  no_fault definitions rest defined number part (BadLet at) apart spells bad = bad.1 defined spells
  no_fault definitions rest defined number part (Twice at) apart spells bad =
      let again = bad.1 in
      let same = same-definition part again.0 defined again.1 spells in
      again.2 (ap (λ d. named name_of definitions (name_of d)) same
      ∙ fresh definitions rest defined apart)
  no_fault definitions rest defined number part Memory apart spells bad = bad

  parted : (front back : List (List ℕ)) (part : List ℕ) (all : List D)
      → AllZip Spells (front ++ part ∷ back) all → Parted Spells front part all
  parted [] back part [] spelt = absurd spelt
  parted [] back part (defined ∷ rest) spelt = record {
    definitions = [];
    defined = defined;
    rest = rest;
    is = refl;
    before = tt;
    here = spelt.0;
  }
  parted (_ ∷ front) back part [] spelt = absurd spelt
  parted (_ ∷ front) back part (first ∷ all) spelt =
      let more = parted front back part all spelt.1 in
      record {
        definitions = first ∷ more.definitions;
        defined = more.defined;
        rest = more.rest;
        is = ap (λ xs. first ∷ xs) more.is;
        before = (spelt.0, more.before);
        here = more.here;
      }

  no_both : (front back : List (List ℕ)) (part : List ℕ) (all definitions : List D)
      (number : ℕ) (fault : LetFault) → Define Spells name_of (front ++ part ∷ back) all
      → Define Spells name_of front definitions → PartHasFault Spells name_of definitions number part fault → ⊥
  no_both front back part all definitions number fault whole good bad =
      let cut = parted front back part all whole.spelt in
      let same = same-definitions front definitions cut.definitions good.spelt cut.before in
      no_fault cut.definitions cut.rest cut.defined number part fault
      (subst (λ ds. AllPairs (λ one other. name_of one ≢ name_of other) ds) cut.is whole.apart) cut.here
      (subst (λ ds. PartHasFault Spells name_of ds number part fault) same bad)

  pub refused-or : (parts : List (List ℕ)) (definitions : List D) (fault : LetFault)
      → Define Spells name_of parts definitions → PartsAreRefused Spells name_of parts fault → ⊥
  refused-or parts definitions fault all is =
      search (rules, no_both, is, definitions, is.front, is.back, is.part, is.definitions)

  same-fault : (definitions : List D) (number : ℕ) (part : List ℕ) (one other : LetFault)
      → PartHasFault Spells name_of definitions number part one → PartHasFault Spells name_of definitions number part other → one ≡ other
  same-fault definitions number part (BadLet a) (BadLet b) is also = search rules
  same-fault definitions number part (BadLet a) (Twice b) is also = search rules
  same-fault definitions number part (BadLet a) Memory is also = absurd also
  same-fault definitions number part (Twice a) (BadLet b) is also = search rules
  same-fault definitions number part (Twice a) (Twice b) is also = search rules
  same-fault definitions number part (Twice a) Memory is also = absurd also
  same-fault definitions number part Memory other is also = absurd is

  pub one-fault : (parts : List (List ℕ)) (one other : LetFault) → PartsAreRefused Spells name_of parts one
      → PartsAreRefused Spells name_of parts other → one ≡ other
  one-fault parts one other is also =
      fronts is.front also.front is.back also.back is.part also.part (sym is.split ∙ also.split)
      (λ mid e. absurd (no_both is.front mid is.part also.definitions is.definitions
      (length is.front + 1) one (subst (λ xs. Define Spells name_of xs also.definitions) e also.good) is.good
      is.bad))
      (λ e here.
      let same = same-definitions also.front is.definitions also.definitions
      (subst (λ xs. AllZip Spells xs is.definitions) e is.good.spelt) also.good.spelt in
      let at_front = subst (λ xs. PartHasFault Spells name_of is.definitions (length xs + 1) is.part one) e is.bad in
      let at_part = subst (λ x. PartHasFault Spells name_of is.definitions (length also.front + 1) x one) here at_front
      in
      same-fault also.definitions (length also.front + 1) also.part one other
      (subst (λ ds. PartHasFault Spells name_of ds (length also.front + 1) also.part one) same at_part) also.bad)
      (λ mid e. absurd (no_both also.front mid also.part is.definitions also.definitions
      (length also.front + 1) other (subst (λ xs. Define Spells name_of xs is.definitions) e is.good) also.good
      also.bad))
