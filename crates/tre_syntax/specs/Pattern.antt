-- Patterns: what one is seen as, and what is always so of one.
use Rattle.std.specs.Prelude.{◌≤◌, length}
use Rattle.tre_state.specs.declared.names.TheConstants.{NAMES_MAX}
use Rattle.tre_trace.specs.Reading.{Vocabulary}
use Rattle.tre_syntax.specs.declared.name_kind.NameKind.TheVariants.{Proposition, Event}
use Rattle.tre_syntax.specs.declared.pattern.Pattern.{Pattern}
use Rattle.tre_syntax.specs.declared.pattern.TheConstants.{NODES_MAX}
use Rattle.tre_syntax.specs.Expr.{tree_of}
use Rattle.tre_syntax.specs.PatternTree.{PatternTree, node_count, NumbersBelow, IsNumbered}

-- The expression of a pattern, as a tree.
abbrev pub pattern_tree : Pattern → PatternTree
pattern_tree pattern = tree_of pattern.expr

-- The names of the propositions of a pattern and those of its events, each at the place that is its
-- number.
abbrev pub names_of : Pattern → Vocabulary
names_of pattern = record { names = pattern.names; events = pattern.events }

-- The tree and the names are those of a pattern.
pub record IsPattern (tree : PatternTree) (names : Vocabulary) : Type 0 where
  pub small : node_count tree ≤ NODES_MAX
  pub numbered : IsNumbered Proposition tree (length names.names)
  pub events_numbered : IsNumbered Event tree (length names.events)
  pub numbers : NumbersBelow NAMES_MAX tree
  pub few : length names.names ≤ NAMES_MAX
  pub few_events : length names.events ≤ NAMES_MAX
