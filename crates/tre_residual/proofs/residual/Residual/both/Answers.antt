use Rattle.std.proofs.Common.{◌∙◌, ap}
use Rattle.tre_residual.specs.Residual.{residual_tree, both}
use Rattle.tre_residual.specs.declared.residual.Residual.{Residual}
use Rattle.tre_residual.proofs.Forms.{Builds-same}
use Rattle.tre_residual.proofs.residual.Residual.both.Goals as goal

pub returns : goal.returns
returns c =
    let one = c.in_ok-one.one.value in
    Builds-same _ _
    (ap (λ (r : Residual). both (residual_tree one) (residual_tree r)) c.in_ok-one.ensures.other
    ∙ ap (λ (r : Residual). both (residual_tree r) (residual_tree c.args.other))
    c.in_ok-one.ensures.one)
