-- The same pattern under way once more.
use Rattle.std.specs.Prelude.{◌≡◌, ℕ}
use Rattle.tre_node.specs.declared.node.Around.{Around}
use Rattle.tre_node.specs.declared.node.Node.{Node}
use Rattle.tre_node.specs.IsNode.{IsIdle, IsMade, IsNode}
use Rattle.tre_node.specs.NodeTree.{around_of, mark_of_node, tree_of_node}

-- Both were made with the same, and in both as much has begun.
pub record IsLike (around copy : Around) : Type 0 where
  pub made : IsMade around.longest around.whole copy
  pub busy : copy.busy ≡ around.busy

-- The copy has the same expression in it, was made with the same, and stands for the same.
pub record IsCopy (node copy : Node) : Type 0 where
  pub tree : tree_of_node copy ≡ tree_of_node node
  pub like : IsLike (around_of node) (around_of copy)
  pub mark : (time : ℕ) → mark_of_node time copy ≡ mark_of_node time node
  pub idle : IsIdle node → IsIdle copy
  pub node_is : (time : ℕ) → IsNode time node → IsNode time copy
