use Rattle.tre_syntax.specs.Expr.{tree_of}
use Rattle.tre_residual.specs.Residual.{joined}
use Rattle.tre_residual.proofs.Forms.{dropped, nothing_joined, Builds-refl}
use Rattle.tre_residual.proofs.residual.Residual.at.Goals as goal

pub returns-then-is_empty : goal.returns-then-is_empty
returns-then-is_empty c =
    let tree = tree_of c.args.expr in
    dropped c.args.zones (λ list. joined list tree) (joined c.args.zones tree)
    (nothing_joined tree) (c.is_empty.ensures.0 c.if-is_empty.true)
    (Builds-refl (joined c.args.zones tree))

pub returns : goal.returns
returns c = Builds-refl (joined c.args.zones (tree_of c.args.expr))
