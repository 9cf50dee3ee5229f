use Rattle.std.proofs.Common.{◌+◌, ◌*◌, max}
use Rattle.tre_node.specs.declared.node.Node.{size-Node}
use Rattle.tre_node.proofs.looking.+look.Given as goal

-- Each form is a step above its parts.
abbrev pub decreases-look : goal.decreases-look
decreases-look l = 2 * size-Node l.node.now

abbrev pub decreases-look_sequence : goal.decreases-look_sequence
decreases-look_sequence l = 2 * max (size-Node l.left.now) (size-Node l.right.now) + 1

abbrev pub decreases-look_alternation : goal.decreases-look_alternation
decreases-look_alternation l = 2 * max (size-Node l.left.now) (size-Node l.right.now) + 1

abbrev pub decreases-look_repetition : goal.decreases-look_repetition
decreases-look_repetition l = 2 * size-Node l.body.now + 1

abbrev pub decreases-look_restriction : goal.decreases-look_restriction
decreases-look_restriction l = 2 * size-Node l.body.now + 1

abbrev pub decreases-look_intersection : goal.decreases-look_intersection
decreases-look_intersection l = 2 * max (size-Node l.left.now) (size-Node l.right.now) + 1
