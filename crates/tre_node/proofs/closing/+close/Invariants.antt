use Rattle.std.proofs.Common.{◌+◌, ◌*◌, max}
use Rattle.tre_node.specs.declared.node.Node.{size-Node}
use Rattle.tre_node.proofs.closing.+close.Given as goal

-- Each form is a step above its parts.
abbrev pub decreases-close : goal.decreases-close
decreases-close l = 2 * size-Node l.node.now

abbrev pub decreases-close_sequence : goal.decreases-close_sequence
decreases-close_sequence l = 2 * max (size-Node l.left.now) (size-Node l.right.now) + 1

abbrev pub decreases-close_alternation : goal.decreases-close_alternation
decreases-close_alternation l = 2 * max (size-Node l.left.now) (size-Node l.right.now) + 1

abbrev pub decreases-close_repetition : goal.decreases-close_repetition
decreases-close_repetition l = 2 * size-Node l.body.now + 1

abbrev pub decreases-close_restriction : goal.decreases-close_restriction
decreases-close_restriction l = 2 * size-Node l.body.now + 1

abbrev pub decreases-close_intersection : goal.decreases-close_intersection
decreases-close_intersection l = 2 * max (size-Node l.left.now) (size-Node l.right.now) + 1
