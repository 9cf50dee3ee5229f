use Rattle.tre_mark.proofs.Meanings.{Scales-Marked}
use Rattle.tre_mark.proofs.laws.scaling.Goals as goal

pub returns : goal.returns
returns c mark tree rest k a b n pos =
    let scales = Scales-Marked rest mark tree in
    (scales.up k a b n pos, scales.down k a b n pos)
