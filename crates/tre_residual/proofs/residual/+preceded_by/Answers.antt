-- Inside a form the set goes before its parts.
use Rattle.std.proofs.Common.{◌≡◌, ◌∙◌, ap, sym, subst}
use Rattle.std.specs.Prelude.{IfOk}
use Rattle.std.proofs.lemmas.Result.{IfOk-weaker}
use Rattle.tre_syntax.specs.Expr.{tree_of}
use Rattle.tre_syntax.specs.declared.expr.Expr.{Expr}
use Rattle.tre_residual.specs.Residual.{ResidualTree, nothing, preceded, followed, either, residual_tree, Builds}
use Rattle.tre_residual.specs.declared.residual.Residual.{Residual}
use Rattle.tre_residual.proofs.Forms.{nothing_before, preceded_followed, preceded_either}
use Rattle.tre_residual.proofs.residual.+preceded_by.Goals as goal

pub returns-in-Nil : goal.returns-in-Nil
returns-in-Nil t c =
    subst (λ (r : ResidualTree). Builds nothing (preceded c.args.zones.now r))
    (sym (ap residual_tree c.in-Nil.is)) (nothing_before c.args.zones.now)

pub returns-in-Here : goal.returns-in-Here
returns-in-Here t c =
    subst (λ (r : ResidualTree). IfOk c.here_after.result (λ whole.
    Builds (residual_tree whole) (preceded c.args.zones.now r)))
    (sym (ap residual_tree c.in-Here.is)) c.here_after.ensures

pub returns-in-At : goal.returns-in-At
returns-in-At t c =
    subst (λ (r : ResidualTree). IfOk c.at_after.result (λ whole.
    Builds (residual_tree whole) (preceded c.args.zones.now r)))
    (sym (ap residual_tree c.in-At.is)) c.at_after.ensures

pub returns-in-Pre : goal.returns-in-Pre
returns-in-Pre t c =
    subst (λ (r : ResidualTree). IfOk c.pre_after.result (λ whole.
    Builds (residual_tree whole) (preceded c.args.zones.now r)))
    (sym (ap residual_tree c.in-Pre.is)) c.pre_after.ensures

pub returns-in_ok-first-in-Post : goal.returns-in_ok-first-in-Post
returns-in_ok-first-in-Post t c =
    let zones = c.args.zones.now in
    let first = residual_tree c.in_ok-first-in-Post.first in
    let inner = residual_tree c.in-Post.first.value in
    let tree = tree_of c.in-Post.expr in
    let form : residual_tree c.args.residual ≡ followed inner tree =
    ap residual_tree c.in-Post.is in
    let begun : Builds first (preceded zones inner) =
    subst (λ (r : Residual). Builds first (preceded zones (residual_tree r)))
    c.into_inner.ensures (subst (λ r. IfOk r (λ whole.
    Builds (residual_tree whole) (preceded zones (residual_tree c.into_inner.result))))
    c.in_ok-first-in-Post.ensures.first c.preceded_by-first.ensures) in
    IfOk-weaker c.followed_by.result _ _
    (λ whole built.
    subst (λ (r : ResidualTree). Builds (residual_tree whole) (preceded zones r)) (sym form)
    (preceded_followed zones first inner (residual_tree whole) tree begun
    (subst (λ (e : Expr). Builds (residual_tree whole) (followed first (tree_of e)))
    c.in_ok-first-in-Post.ensures.second built)))
    c.followed_by.ensures

pub returns-in_ok-other-in-Or : goal.returns-in_ok-other-in-Or
returns-in_ok-other-in-Or t c =
    let zones = c.args.zones.now in
    let one = residual_tree c.in-Or.one.value in
    let other = residual_tree c.in-Or.other.value in
    let one' = residual_tree c.in_ok-one-in-Or.one in
    let other' = residual_tree c.in_ok-other-in-Or.other in
    let form : residual_tree c.args.residual ≡ either one other = ap residual_tree c.in-Or.is in
    let left : Builds one' (preceded zones one) =
    subst (λ (r : Residual). Builds one' (preceded zones (residual_tree r)))
    c.into_inner-in-Or.ensures (subst (λ r. IfOk r (λ whole.
    Builds (residual_tree whole) (preceded zones (residual_tree c.into_inner-in-Or.result))))
    c.in_ok-one-in-Or.ensures.first c.preceded_by-one.ensures) in
    let right : Builds other' (preceded zones other) =
    subst (λ (r : Residual). Builds other' (preceded zones (residual_tree r)))
    (c.into_inner-in-Or-2.ensures ∙ ap (λ b. b.value) c.in_ok-one-in-Or.ensures.second)
    (subst (λ r. IfOk r (λ whole.
    Builds (residual_tree whole) (preceded zones (residual_tree c.into_inner-in-Or-2.result))))
    c.in_ok-other-in-Or.ensures.first c.preceded_by-other.ensures) in
    IfOk-weaker c.or.result _ _
    (λ whole built.
    subst (λ (r : ResidualTree). Builds (residual_tree whole) (preceded zones r)) (sym form)
    (preceded_either zones one one' other other' (residual_tree whole) left right
    (subst (λ (r : Residual). Builds (residual_tree whole) (either (residual_tree r) other'))
    c.in_ok-other-in-Or.ensures.second built)))
    c.or.ensures
