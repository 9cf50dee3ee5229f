use Rattle.tre_tell.proofs.ForGood.{in_all}
use Rattle.tre_tell.proofs.laws.told_in_all.Goals as goal

pub returns : goal.returns
returns c = in_all
