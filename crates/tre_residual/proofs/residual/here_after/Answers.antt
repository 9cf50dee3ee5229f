use Rattle.tre_residual.specs.Residual.{residual_tree, preceded, here}
use Rattle.tre_residual.proofs.Forms.{Builds-trans, here_composed}
use Rattle.tre_residual.proofs.residual.here_after.Goals as goal

pub returns : goal.returns
returns c =
    Builds-trans (residual_tree c.here.result) (here c.in_ok-whole.whole)
    (preceded c.args.zones.now (here c.args.ended.now)) c.here.ensures
    (here_composed c.in_ok-whole.whole c.args.zones.now c.args.ended.now c.in_ok-whole.ensures)
