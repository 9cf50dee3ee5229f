use Rattle.tre_show.proofs.Rising.{later_rises}
use Rattle.tre_show.proofs.laws.later_rise.Goals as goal

pub returns : goal.returns
returns c = later_rises
