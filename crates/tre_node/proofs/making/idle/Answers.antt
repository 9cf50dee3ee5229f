use Rattle.std.proofs.Common.{refl}
use Rattle.tre_node.proofs.NewNodes.{parts_new}
use Rattle.tre_node.proofs.making.idle.Goals as goal

pub returns : goal.returns
returns c = parts_new (record { limit = tt }) c.around.ensures tt refl
