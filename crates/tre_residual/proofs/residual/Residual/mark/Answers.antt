use Rattle.std.proofs.Common.{ap}
use Rattle.tre_node.specs.declared.node.Node.{Node}
use Rattle.tre_residual.specs.Residual.{marked}
use Rattle.tre_residual.proofs.Forms.{Builds-same, nothing_marked}
use Rattle.tre_residual.proofs.residual.Residual.mark.Goals as goal

pub returns-then-is_idle : goal.returns-then-is_idle
returns-then-is_idle c = nothing_marked c.args.node (c.is_idle.ensures c.if-is_idle.true)

pub returns : goal.returns
returns c = Builds-same _ _ (ap (λ (n : Node). marked n) c.in_ok-node.ensures)
