use Rattle.tre_tell.proofs.ForGood.{stays_true, in_time}
use Rattle.tre_tell.proofs.laws.told_for_good.Goals as goal

pub returns : goal.returns
returns c = record { stays_true = stays_true; in_time = in_time }
