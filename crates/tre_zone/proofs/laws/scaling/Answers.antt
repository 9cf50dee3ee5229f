use Rattle.tre_zone.proofs.Scaling.{SetHolds-scale}
use Rattle.tre_zone.proofs.laws.scaling.Goals as goal

pub returns : goal.returns
returns c = SetHolds-scale
