use Rattle.std.proofs.Common.{◌+◌, ◌*◌, max}
use Rattle.tre_node.specs.declared.node.Node.{size-Node}
use Rattle.tre_node.proofs.entering.+enter.Given as goal

-- Each form is a step above its parts.
abbrev pub decreases-go_in : goal.decreases-go_in
decreases-go_in l = 3 * size-Node l.node.now + 1

abbrev pub decreases-enter_form : goal.decreases-enter_form
decreases-enter_form l = 3 * size-Node l.node.now

abbrev pub decreases-enter_parts : goal.decreases-enter_parts
decreases-enter_parts l = 3 * max (size-Node l.left.now) (size-Node l.right.now) + 2

abbrev pub decreases-enter_both : goal.decreases-enter_both
decreases-enter_both l = 3 * max (size-Node l.left.now) (size-Node l.right.now) + 2

abbrev pub decreases-enter_again : goal.decreases-enter_again
decreases-enter_again l = 3 * size-Node l.body.now + 2
