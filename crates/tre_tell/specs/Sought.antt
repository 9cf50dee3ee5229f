-- What is looked for: patterns, each behind a label.
use Rattle.std.specs.Prelude.{ℕ, List, [], ◌∷◌, map}
use Rattle.tre_syntax.specs.Pattern.{pattern_tree, names_of}
use Rattle.tre_syntax.specs.PatternTree.{PatternTree}
use Rattle.tre_syntax.specs.declared.pattern.Pattern.{Pattern}
use Rattle.tre_trace.specs.Reading.{Vocabulary}

-- A pattern that is looked for, and the label that stands before each line on it.
pub record Sought : Type 0 where
  pub label : List ℕ
  pub tree : PatternTree
  pub names : Vocabulary

abbrev pub all_names : List Sought → List Vocabulary
all_names patterns = map (λ pattern. pattern.names) patterns

-- what is looked for by patterns behind these labels
abbrev pub sought_by : List (List ℕ) → List Pattern → List Sought
sought_by (label ∷ labels) (pattern ∷ patterns) =
    record { label = label; tree = pattern_tree pattern; names = names_of pattern }
    ∷ sought_by labels patterns
sought_by labels patterns = []
