-- The tree that a state of the program is.
use Rattle.tre_state.specs.declared.state.State.{State}
use Rattle.tre_state.specs.declared.state.State.TheVariants.{Yes, Prop, Not', And', Or'}
use Rattle.tre_state.specs.StateTree.{StateTree, always, proposition, negation, conjunction, disjunction}

-- The state as a tree, without its boxes.
abbrev pub tree_of : State → StateTree
tree_of Yes = always
tree_of (Prop number) = proposition number
tree_of (Not' box state) = negation (tree_of state)
tree_of (And' box left other right) = conjunction (tree_of left) (tree_of right)
tree_of (Or' box left other right) = disjunction (tree_of left) (tree_of right)
