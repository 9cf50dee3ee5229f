-- The fixed pattern is one.
use Rattle.std.proofs.Common.{◌≤◌, refl, lit≤}
use Rattle.tre_syntax.specs.declared.name_kind.NameKind.TheVariants.{Proposition, Event}
use Rattle.tre_syntax.specs.declared.pattern.TheConstants.{NODES_MAX}
use Rattle.tre_syntax.specs.PatternTree.{node_count, IsNumbered}
use Rattle.tre_generate.specs.FixedPattern.{fixed_tree}

pub fixed_small : node_count fixed_tree ≤ NODES_MAX
fixed_small = lit≤ tt

pub fixed_numbered : IsNumbered Proposition fixed_tree 1
fixed_numbered = refl

pub fixed_no_events : IsNumbered Event fixed_tree 0
fixed_no_events = refl
