use Rattle.std.proofs.Common.{◌∙◌, ap}
use Rattle.tre_residual.specs.Residual.{residual_tree, either}
use Rattle.tre_residual.specs.declared.residual.Residual.{Residual}
use Rattle.tre_residual.proofs.Forms.{Builds-same, either_right_of, either_left_of}
use Rattle.tre_residual.proofs.residual.Residual.or.Goals as goal

pub returns-then-is_nil : goal.returns-then-is_nil
returns-then-is_nil c =
    either_right_of (residual_tree c.args.one) (residual_tree c.args.other)
    (c.is_nil.ensures.0 c.if-is_nil.true)

pub returns-then-is_nil-2 : goal.returns-then-is_nil-2
returns-then-is_nil-2 c =
    either_left_of (residual_tree c.args.one) (residual_tree c.args.other)
    (c.is_nil-2.ensures.0 c.if-is_nil-2.true)

pub returns : goal.returns
returns c =
    let one = c.in_ok-one.one.value in
    Builds-same _ _
    (ap (λ (r : Residual). either (residual_tree one) (residual_tree r)) c.in_ok-one.ensures.other
    ∙ ap (λ (r : Residual). either (residual_tree r) (residual_tree c.args.other))
    c.in_ok-one.ensures.one)
