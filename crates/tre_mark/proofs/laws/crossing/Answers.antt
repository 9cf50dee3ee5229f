use Rattle.tre_mark.proofs.Meanings.{around_present}
use Rattle.tre_mark.proofs.laws.crossing.Goals as goal

pub returns : goal.returns
returns c mark tree rest a b n h =
    let around = around_present rest mark tree a b n h in
    record { related = h; begin = around.0; end = around.1 }
