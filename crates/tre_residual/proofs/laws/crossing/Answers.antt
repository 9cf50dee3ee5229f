use Rattle.tre_residual.proofs.Crossings.{ends_around}
use Rattle.tre_residual.proofs.laws.crossing.Goals as goal

pub returns : goal.returns
returns c residual rest a b n some well h =
    let around = ends_around rest residual well.well a b n some h in
    record { related = h; begin = around.0; end = around.1 }
