-- How many nodes a session keeps.
use Rattle.std.proofs.Common.{◌≡◌, ℕ, ◌-◌, ◌^◌, ◌≤◌, min, arith, refl}
use Rattle.tre_syntax.specs.PatternTree.{PatternTree, node_count}
use Rattle.tre_mark.specs.Nodes.{form_count, mark_node_count}
use Rattle.tre_mark.proofs.NodeCounts.{forms_below}
use Rattle.tre_node.specs.NodeTree.{mark_of_node, tree_of_node}
use Rattle.tre_node.specs.declared.node.Node.{Node, Eps, Lit, Rise, Fall, Event, Seq', Alt', Meet', Star', Within'}

-- A node has the shape of its expression.
pub shaped : (time : ℕ) (node : Node)
    → mark_node_count (mark_of_node time node) ≡ form_count (tree_of_node node)
shaped time (Eps around) = refl
shaped time (Lit around state begun) = refl
shaped time (Rise around state) = refl
shaped time (Fall around state) = refl
shaped time (Event around number) = refl
shaped time (Seq' around x left x' right) =
    let first = shaped time left in
    let second = shaped time right in
    omega (arith, first, second)
shaped time (Alt' around x left x' right) =
    let first = shaped time left in
    let second = shaped time right in
    omega (arith, first, second)
shaped time (Meet' around reach outer most x left x' right) =
    let first = shaped time left in
    let second = shaped time right in
    omega (arith, first, second)
shaped time (Star' around x body) = let inner = shaped time body in omega (arith, inner)
shaped time (Within' around reach interval outer most x body) =
    let inner = shaped time body in
    omega (arith, inner)

-- Those of a small expression are counted.
pub counted : (tree : PatternTree) (forms count : ℕ) → forms ≡ form_count tree
    → node_count tree ≤ 1000 → count ≡ min forms (2 ^ 64 - 1) → count ≡ form_count tree
counted tree forms count same small is =
    let below = forms_below tree in
    omega (arith, below, same, small, is)
