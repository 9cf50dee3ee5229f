-- The tree that an expression of the program is.
use Rattle.tre_state.specs.State as states
use Rattle.tre_syntax.specs.declared.expr.Expr.{Expr}
use Rattle.tre_syntax.specs.declared.expr.Expr.TheVariants.{Eps, Lit, Rise, Fall, Event, Seq', Alt', Meet', Star', Within'}
use Rattle.tre_syntax.specs.PatternTree.{PatternTree, empty, literal, rise, fall, event, atom, sequence, alternation, intersection, repetition, restriction}

-- The expression as a tree, without its boxes.
abbrev pub tree_of : Expr → PatternTree
tree_of Eps = atom empty
tree_of (Lit state) = atom (literal (states.tree_of state))
tree_of (Rise state) = atom (rise (states.tree_of state))
tree_of (Fall state) = atom (fall (states.tree_of state))
tree_of (Event number) = atom (event number)
tree_of (Seq' box left other right) = sequence (tree_of left) (tree_of right)
tree_of (Alt' box left other right) = alternation (tree_of left) (tree_of right)
tree_of (Meet' box left other right) = intersection (tree_of left) (tree_of right)
tree_of (Star' box expr) = repetition (tree_of expr)
tree_of (Within' box expr interval) = restriction (tree_of expr) interval
