-- What a definition says.
use Rattle.std.specs.Prelude.{ℕ, List, ℤ}
use Rattle.tre_define.specs.declared.comparison.Comparison.{Comparison}

-- A name stands for a comparison of the numbers of a column with a value.
pub record Defined : Type 0 where
  pub name : List ℕ
  pub column : List ℕ
  pub comparison : Comparison
  pub value : ℤ

abbrev pub name_of_let : Defined → List ℕ
name_of_let defined = defined.name
