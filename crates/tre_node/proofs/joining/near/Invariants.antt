use Rattle.std.proofs.Common.{◌≤◌, length}
use Rattle.tre_node.proofs.joining.near.Given as goal

abbrev pub invariant-loop-left : goal.invariant-loop-left
invariant-loop-left l = l.left ≤ length l.outer

abbrev pub decreases-loop-left : goal.decreases-loop-left
decreases-loop-left l = l.left
