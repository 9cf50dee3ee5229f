use Rattle.std.proofs.Common.{◌+◌, ◌*◌, max}
use Rattle.tre_node.specs.declared.node.Node.{size-Node}
use Rattle.tre_node.proofs.forgetting.+is_idle.Given as goal

-- Each form is a step above its parts.
abbrev pub decreases-is_idle : goal.decreases-is_idle
decreases-is_idle l = 2 * size-Node l.node.now

abbrev pub decreases-are_idle : goal.decreases-are_idle
decreases-are_idle l = 2 * max (size-Node l.left.now) (size-Node l.right.now) + 1
