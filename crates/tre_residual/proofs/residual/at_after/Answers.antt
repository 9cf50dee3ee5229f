use Rattle.std.proofs.Common.{subst}
use Rattle.std.specs.Prelude.{IfOk}
use Rattle.tre_syntax.specs.Expr.{tree_of}
use Rattle.tre_syntax.specs.declared.expr.Expr.{Expr}
use Rattle.tre_residual.specs.Residual.{residual_tree, preceded, joined, Builds, IsComposition}
use Rattle.tre_residual.proofs.Forms.{Builds-trans, joined_composed}
use Rattle.tre_residual.proofs.residual.at_after.Goals as goal

pub returns : goal.returns
returns c =
    let zones = c.args.zones.now in
    let begun = c.args.begun.now in
    let whole = c.in_ok-whole.whole in
    let tree = tree_of c.args.expr in
    let composed : IsComposition whole zones begun =
    subst (λ r. IfOk r (λ set. IsComposition set zones begun)) c.in_ok-whole.ensures.first
    c.composed.ensures in
    Builds-trans (residual_tree c.at.result) (joined whole tree)
    (preceded zones (joined begun tree))
    (subst (λ (e : Expr). Builds (residual_tree c.at.result) (joined whole (tree_of e)))
    c.in_ok-whole.ensures.second c.at.ensures)
    (joined_composed whole zones begun composed tree)
