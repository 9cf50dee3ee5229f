use Rattle.std.proofs.Common.{◌≡◌, IfOk, subst}
use Rattle.std.proofs.lemmas.Result.{IfOk-weaker}
use Rattle.tre_syntax.specs.Expr.{tree_of}
use Rattle.tre_syntax.specs.PatternTree.{PatternTree}
use Rattle.tre_residual.specs.Residual.{followed, residual_tree, Builds}
use Rattle.tre_residual.specs.declared.residual.Residual.{Residual}
use Rattle.tre_derive.proofs.forms.followed_by.Goals as goal

pub returns : goal.returns
returns c =
    let tree = tree_of c.args.expr.now in
    let copied = subst (λ r. IfOk r (λ e. tree_of e ≡ tree)) c.in_ok-copy.ensures.first
    c.try_clone-copy.ensures.same in
    IfOk-weaker c.post.result _ _
    (λ whole built.
    subst (λ (r : Residual). Builds (residual_tree whole) (followed (residual_tree r) tree))
    c.in_ok-copy.ensures.second
    (subst (λ (t : PatternTree).
    Builds (residual_tree whole) (followed (residual_tree c.in_ok-copy.residual) t))
    copied built))
    c.post.ensures.builds
