use Rattle.std.proofs.Common.{ap}
use Rattle.tre_residual.specs.Residual.{residual_tree, lasting}
use Rattle.tre_residual.specs.declared.residual.Residual.{Residual}
use Rattle.tre_residual.proofs.Forms.{Builds-same, kept_form, nothing_lasting}
use Rattle.tre_residual.proofs.residual.Residual.dur.Goals as goal

pub returns-then-is_nil : goal.returns-then-is_nil
returns-then-is_nil c =
    kept_form (residual_tree c.args.residual) (λ tree. lasting tree c.args.interval)
    (nothing_lasting c.args.interval) (c.is_nil.ensures.0 c.if-is_nil.true)

pub returns : goal.returns
returns c = Builds-same _ _
    (ap (λ (r : Residual). lasting (residual_tree r) c.args.interval) c.in_ok-residual.ensures)
