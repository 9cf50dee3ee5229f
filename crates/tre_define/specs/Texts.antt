-- Texts of definitions of any kind: each definition is spelt by some parts, with `;` between two.
use Rattle.std.specs.Prelude.{◌≡◌, ◌≢◌, ℕ, ◌+◌, ◌==◌, Bool, List, [], ◌∷◌, ◌++◌, length, codes, replicate, find, Option, None, AllPairs, if◌then◌else◌}
use Rattle.std.specs.List.{list_all, slice_split, AllZip}
use Rattle.std.specs.Str.{bytes_eq}
use Rattle.tre_define.specs.declared.comparison.Comparison.{Comparison}
use Rattle.tre_define.specs.declared.comparison.Comparison.TheVariants.{Less, AtMost, Greater, AtLeast, Equal, Unequal}
use Rattle.tre_define.specs.declared.let_fault.LetFault.{LetFault}
use Rattle.tre_define.specs.declared.let_fault.LetFault.TheVariants.{BadLet, Twice, Memory}

-- ---- one definition

abbrev pub sign_text : Comparison → List ℕ
sign_text Less = codes "<"
sign_text AtMost = codes "<="
sign_text Greater = codes ">"
sign_text AtLeast = codes ">="
sign_text Equal = codes "=="
sign_text Unequal = codes "!="

-- The text is these parts in their order, with any number of spaces (32) before each of them and at
-- the end.
abbrev pub IsSpaced : List (List ℕ) → List ℕ → Type 0
IsSpaced [] text = (count : ℕ) × (text ≡ replicate count 32)
IsSpaced (part ∷ parts) text =
    (count : ℕ) × (rest : List ℕ) × (text ≡ replicate count 32 ++ (part ++ rest))
    × IsSpaced parts rest

-- ---- the definitions of a text

abbrev pub is_space : ℕ → Bool
is_space byte = byte == 32

abbrev pub is_semicolon : ℕ → Bool
is_semicolon byte = byte == 59

-- The parts of a text: none where it is spaces alone, and else what stands between semicolons.
abbrev pub parts_of : List ℕ → List (List ℕ)
parts_of text =
    if list_all is_space text then [] else slice_split is_semicolon text

-- Below, `Spells part defined` says that a part is a definition, and `name_of` which name is
-- defined.

abbrev pub named : {D : Type 0} → (D → List ℕ) → List D → List ℕ → Option D
named name_of definitions name = find (λ defined. bytes_eq (name_of defined) name) definitions

-- Each part is the definition at its place, and no two are of one name.
pub record Define {D : Type 0} (Spells : List ℕ → D → Type 0) (name_of : D → List ℕ)
    (parts : List (List ℕ)) (definitions : List D) : Type 0 where
  pub spelt : AllZip Spells parts definitions
  pub apart : AllPairs (λ one other. name_of one ≢ name_of other) definitions

-- Behind these definitions the part has this fault, which is told with a number.
abbrev pub PartHasFault : {D : Type 0} → (List ℕ → D → Type 0) → (D → List ℕ) → List D → ℕ → List ℕ
    → LetFault → Type 0
PartHasFault Spells name_of definitions number part (BadLet at) =
    (at ≡ number) × ((defined : _) → ¬ Spells part defined)
PartHasFault Spells name_of definitions number part (Twice at) =
    (at ≡ number) × ((defined : _) × Spells part defined
    × (named name_of definitions (name_of defined) ≢ None))
PartHasFault Spells name_of definitions number part Memory = ⊥

-- The first part with a fault, behind parts that are definitions.
pub record PartsAreRefused {D : Type 0} (Spells : List ℕ → D → Type 0) (name_of : D → List ℕ)
    (parts : List (List ℕ)) (fault : LetFault) : Type 0 where
  pub front : List (List ℕ)
  pub part : List ℕ
  pub back : List (List ℕ)
  pub split : parts ≡ front ++ (part ∷ back)
  pub definitions : List D
  pub good : Define Spells name_of front definitions
  pub bad : PartHasFault Spells name_of definitions (length front + 1) part fault
