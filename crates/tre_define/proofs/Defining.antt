-- The definitions of a text, one part after the other, of whatever kind they are.
use Rattle.std.proofs.Common.{◌≡◌, ◌≢◌, ℕ, zero, suc, ◌+◌, ◌<◌, Bool, true, false, cond, Option, Some, None, List, [], ◌∷◌, ◌++◌, append_assoc, length, get_or, take, drop, refl, sym, ap, subst, ◌∙◌, arith, rules}
use Rattle.std.specs.Prelude.{◌==◌, ◌&&◌, if◌then◌else◌}
use Rattle.std.specs.List.{AllZip, list_all, position_or_len, prefix_len, slice_split}
use Rattle.std.specs.Option.{is_some, option_map}
use Rattle.std.specs.Str.{bytes_eq}
use Rattle.std.proofs.lemmas.Bool.{false≢true}
use Rattle.std.proofs.lemmas.Bool.Decides.{nat_tests}
use Rattle.std.proofs.lemmas.List.Quantifiers.{all_pairs_push}
use Rattle.std.proofs.lemmas.List.Splits.{slice_split_first, slice_split_none}
use Rattle.std.proofs.lemmas.List.Sums.{fails_before_first, position_or_len_is}
use Rattle.std.proofs.lemmas.Slice.Eq.{bytes_eq-Decides}
use Rattle.tre_define.specs.Texts.{Define, PartHasFault, PartsAreRefused, is_semicolon, is_space, named, parts_of}
use Rattle.tre_define.specs.Pieces.{past_spaces}
use Rattle.tre_define.specs.declared.let_fault.LetFault.{LetFault}

-- Of all parts the first ones are these definitions, and the rest stand behind them.
pub record HasDefined {D : Type 0} (Spells : List ℕ → D → Type 0) (name_of : D → List ℕ)
    (all : List (List ℕ)) (definitions : List D) (rest : List (List ℕ)) : Type 0 where
  pub front : List (List ℕ)
  pub split : all ≡ front ++ rest
  pub good : Define Spells name_of front definitions

-- ---- one more definition

SpellAll-length : {D : Type 0} (Spells : List ℕ → D → Type 0) (parts : List (List ℕ)) (definitions : List D)
    → AllZip Spells parts definitions → length parts ≡ length definitions
SpellAll-length Spells [] [] all = refl
SpellAll-length Spells [] (defined ∷ definitions) all = absurd all
SpellAll-length Spells (part ∷ parts) [] all = absurd all
SpellAll-length Spells (part ∷ parts) (defined ∷ definitions) all =
    ap suc (SpellAll-length Spells parts definitions all.1)

SpellAll-push : {D : Type 0} (Spells : List ℕ → D → Type 0) (parts : List (List ℕ)) (definitions : List D) (part : List ℕ)
    (defined : D) → AllZip Spells parts definitions → Spells part defined
    → AllZip Spells (parts ++ part ∷ []) (definitions ++ defined ∷ [])
SpellAll-push Spells [] [] part defined all one = (one, tt)
SpellAll-push Spells [] (_ ∷ definitions) part defined all one = absurd all
SpellAll-push Spells (_ ∷ parts) [] part defined all one = absurd all
SpellAll-push Spells (_ ∷ parts) (_ ∷ definitions) part defined all one =
    (all.0, SpellAll-push Spells parts definitions part defined all.1 one)

-- Where no definition of a name was found, none has it.
unnamed : {D : Type 0} (name_of : D → List ℕ) (definitions : List D) (name : List ℕ) → named name_of definitions name ≡ None
    → (k : ℕ) (d : D) → k < length definitions → name_of (get_or definitions k d) ≢ name
unnamed {D = D} name_of [] name none k d below = absurd (omega (arith, below))
unnamed {D = D} name_of (defined ∷ definitions) name none k d below =
    by (bytes_eq (name_of defined) name) refl none
    (λ rest. unnamed name_of definitions name rest) k below
  where
    by : (same : Bool) → bytes_eq (name_of defined) name ≡ same
        → cond same (Some defined) (named name_of definitions name) ≡ None
        → (named name_of definitions name ≡ None → (k : ℕ) (d : D)
        → k < length definitions → name_of (get_or definitions k d) ≢ name)
        → (k : ℕ) → k < length (defined ∷ definitions)
        → name_of (get_or (defined ∷ definitions) k d) ≢ name
    by true e none more k below = cc
    by false e none more zero below =
        λ same. absurd (false≢true (sym e ∙ (bytes_eq-Decides (name_of defined) name).1 same))
    by false e none more (suc k) below = more none k d (omega (arith, below))

module _ {D : Type 0} {Spells : List ℕ → D → Type 0} {name_of : D → List ℕ} where
  Define-push : (parts : List (List ℕ)) (definitions : List D) (part : List ℕ)
      (defined : D) → Define Spells name_of parts definitions → Spells part defined
      → named name_of definitions (name_of defined) ≡ None
      → Define Spells name_of (parts ++ part ∷ []) (definitions ++ defined ∷ [])
  Define-push parts definitions part defined all one fresh = record {
    spelt = SpellAll-push Spells parts definitions part defined all.spelt one;
    apart = all_pairs_push (λ (a b : D). name_of a ≢ name_of b) definitions defined all.apart
        (λ k d below. unnamed name_of definitions (name_of defined) fresh k d below);
  }

  -- ---- all parts

  pub begins : (all : List (List ℕ)) → HasDefined Spells name_of all [] all
  begins all = search rules

  pub one-more : (all rest : List (List ℕ)) (definitions : List D) (part : List ℕ)
      (defined : D) → HasDefined Spells name_of all definitions (part ∷ rest) → Spells part defined
      → named name_of definitions (name_of defined) ≡ None
      → HasDefined Spells name_of all (definitions ++ defined ∷ []) rest
  one-more all rest definitions part defined has one fresh = record {
    front = has.front ++ part ∷ [];
    split = has.split ∙ sym (append_assoc has.front (part ∷ []) rest);
    good = Define-push has.front definitions part defined has.good one fresh;
  }

  pub refused : (all rest : List (List ℕ)) (definitions : List D) (part : List ℕ)
      (fault : LetFault) → HasDefined Spells name_of all definitions (part ∷ rest)
      → PartHasFault Spells name_of definitions (length definitions + 1) part fault → PartsAreRefused Spells name_of all fault
  refused all rest definitions part fault has bad = record {
    front = has.front;
    part = part;
    back = rest;
    split = has.split;
    definitions = definitions;
    good = has.good;
    bad = subst (λ n. PartHasFault Spells name_of definitions (n + 1) part fault)
        (sym (SpellAll-length Spells has.front definitions has.good.spelt)) bad;
  }

  pub all-defined : (all : List (List ℕ)) (definitions : List D)
      → HasDefined Spells name_of all definitions [] → Define Spells name_of all definitions
  all-defined all definitions has = search rules

pub none-mapped : {A B : Type 0} (f : A → B) (found : Option A) → is_some found ≡ false
    → option_map f found ≡ None
none-mapped f None never = refl
none-mapped f (Some x) never = absurd (false≢true (sym never))

-- ---- the parts of a text

pub last-part : (bytes : List ℕ)
    → ((k : ℕ) → k < length bytes → is_semicolon (get_or bytes k 0) ≡ false)
    → slice_split is_semicolon bytes ≡ bytes ∷ []
last-part bytes all =
    let none : position_or_len is_semicolon bytes ≡ length bytes =
    position_or_len_is is_semicolon bytes (length bytes) 0 (omega arith) all
    (λ past. absurd (omega (arith, past))) in
    slice_split_none is_semicolon bytes
    (λ k d below. fails_before_first is_semicolon bytes k d (omega (arith, none, below)))

pub next-part : (bytes : List ℕ) (place : ℕ) → place < length bytes
    → ((k : ℕ) → k < place → is_semicolon (get_or bytes k 0) ≡ false)
    → is_semicolon (get_or bytes place 0) ≡ true
    → slice_split is_semicolon bytes
    ≡ take place bytes ∷ slice_split is_semicolon (drop (place + 1) bytes)
next-part bytes place below before here =
    search (rules, is_semicolon, position_or_len_is, slice_split_first)

-- what is left behind spaces says whether there is anything else
left : (bytes : List ℕ) → list_all is_space bytes ≡ (length (past_spaces bytes) == 0)
left [] = refl
left (byte ∷ bytes) = by (byte == 32) (left bytes) where
  by : (space : Bool) → list_all is_space bytes ≡ (length (past_spaces bytes) == 0)
      → (space && list_all is_space bytes)
      ≡ (length (drop (cond space (1 + prefix_len is_space bytes) 0) (byte ∷ bytes)) == 0)
  by true more =
      let n = prefix_len is_space bytes in
      let step : 1 + n ≡ suc n = omega arith in
      more ∙ sym (ap (λ k. length (drop k (byte ∷ bytes)) == 0) step)
  by false more =
      let some : (suc (length bytes) == 0) ≡ false = grind (arith, nat_tests) in sym some

pub no_parts : (text : List ℕ) → (length (past_spaces text) == 0) ≡ true → parts_of text ≡ []
no_parts text none =
    ap (λ test. if test then [] else slice_split is_semicolon text) (left text ∙ none)

pub some_parts : (text : List ℕ) → (length (past_spaces text) == 0) ≡ false
    → parts_of text ≡ slice_split is_semicolon text
some_parts text some =
    ap (λ test. if test then [] else slice_split is_semicolon text) (left text ∙ some)
