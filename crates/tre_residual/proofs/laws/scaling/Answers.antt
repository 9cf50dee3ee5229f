use Rattle.tre_residual.proofs.Meanings.{Scales-Means}
use Rattle.tre_residual.proofs.laws.scaling.Goals as goal

pub returns : goal.returns
returns c residual rest k a b n pos =
    let scales = Scales-Means rest residual in (scales.up k a b n pos, scales.down k a b n pos)
