use Rattle.tre_node.specs.declared.node.Node.{size-Node}
use Rattle.tre_node.proofs.forgetting.+forget_all.Given as goal

-- Each form is a step above its parts.
abbrev pub decreases-forget_all : goal.decreases-forget_all
decreases-forget_all l = size-Node l.node.now
