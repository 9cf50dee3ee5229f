use Rattle.std.proofs.Common.{◌≡◌, List, IfOk, subst}
use Rattle.std.proofs.lemmas.Result.{IfOk-weaker}
use Rattle.tre_zone.specs.declared.zone_bounds.ZoneBounds.{ZoneBounds}
use Rattle.tre_residual.specs.Residual.{preceded, residual_tree, Builds}
use Rattle.tre_residual.specs.declared.residual.Residual.{Residual}
use Rattle.tre_derive.proofs.forms.preceded_by.Goals as goal

pub returns : goal.returns
returns c =
    let zones = c.args.zones.now in
    let copied = subst (λ r. IfOk r (λ z. z ≡ zones)) c.in_ok-copy.ensures.first
    c.try_clone-copy.ensures in
    IfOk-weaker c.pre.result _ _
    (λ whole built.
    subst (λ (r : Residual). Builds (residual_tree whole) (preceded zones (residual_tree r)))
    c.in_ok-copy.ensures.second
    (subst (λ (z : List ZoneBounds).
    Builds (residual_tree whole) (preceded z (residual_tree c.in_ok-copy.rest))) copied built))
    c.pre.ensures
