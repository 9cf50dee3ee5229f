use Rattle.tre_residual.specs.Residual.{residual_tree}
use Rattle.tre_residual.proofs.Forms.{dropped_before}
use Rattle.tre_residual.proofs.residual.Residual.pre.Goals as goal

pub returns-then-is_empty : goal.returns-then-is_empty
returns-then-is_empty c =
    dropped_before c.args.zones (residual_tree c.args.residual)
    (c.is_empty.ensures.0 c.if-is_empty.true)
