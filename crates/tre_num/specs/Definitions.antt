-- The text of definitions.
use Rattle.std.specs.Prelude.{◌≡◌, ℕ, List, [], ◌∷◌, codes, Some}
use Rattle.tre_state.specs.Name.{IsName, IsWord}
use Rattle.tre_define.specs.Texts.{Define as DefineBy, PartsAreRefused as IsRefusedBy, IsSpaced, sign_text}
use Rattle.tre_define.specs.declared.let_fault.LetFault.{LetFault}
use Rattle.tre_num.specs.Defined.{Defined, name_of_let}
use Rattle.tre_num.specs.Whole.{whole_of}

-- The text is this definition: of a name, of the numbers of a column, and with a whole number.
pub record Spells (text : List ℕ) (defined : Defined) : Type 0 where
  pub name : IsName defined.name
  pub column : IsWord defined.column
  pub number : List ℕ
  pub value : whole_of number ≡ Some defined.value
  pub spaced : IsSpaced
      (defined.name ∷ codes "=" ∷ defined.column ∷ sign_text defined.comparison ∷ number ∷ []) text

-- The parts are these definitions, no two of which are of one name.
abbrev pub Define : List (List ℕ) → List Defined → Type 0
Define parts definitions = DefineBy Spells name_of_let parts definitions

-- The first of the parts with a fault, behind parts that are definitions, has this one.
abbrev pub LetsAreRefused : List (List ℕ) → LetFault → Type 0
LetsAreRefused parts fault = IsRefusedBy Spells name_of_let parts fault
