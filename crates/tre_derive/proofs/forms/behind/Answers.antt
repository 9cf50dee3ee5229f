use Rattle.std.proofs.Common.{IfOk, subst}
use Rattle.std.proofs.lemmas.Result.{IfOk-weaker}
use Rattle.tre_syntax.specs.Expr.{tree_of}
use Rattle.tre_residual.specs.Residual.{followed, either, residual_tree, Builds}
use Rattle.tre_residual.specs.declared.residual.Residual.{Residual}
use Rattle.tre_derive.proofs.forms.behind.Goals as goal

pub returns : goal.returns
returns c =
    let later = residual_tree c.in_ok-later.later in
    let follows = subst (λ r. IfOk r (λ whole. Builds (residual_tree whole)
    (followed (residual_tree c.args.rest) (tree_of c.args.expr.now))))
    c.in_ok-later.ensures.first c.followed_by-later.ensures in
    IfOk-weaker c.or.result _ _
    (λ whole built. record {
      behind = later;
      follows = follows;
      builds = subst (λ (r : Residual). Builds (residual_tree whole) (either later (residual_tree r)))
          c.in_ok-later.ensures.second built;
    })
    c.or.ensures
