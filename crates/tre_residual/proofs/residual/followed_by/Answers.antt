use Rattle.tre_syntax.specs.Expr.{tree_of}
use Rattle.tre_residual.specs.Residual.{residual_tree, followed}
use Rattle.tre_residual.proofs.Forms.{kept_form, nothing_followed}
use Rattle.tre_residual.proofs.residual.followed_by.Goals as goal

pub returns-then-is_nil : goal.returns-then-is_nil
returns-then-is_nil c =
    kept_form (residual_tree c.args.residual) (λ tree. followed tree (tree_of c.args.expr))
    (nothing_followed (tree_of c.args.expr)) (c.is_nil.ensures.0 c.if-is_nil.true)
