use Rattle.std.proofs.Common.{refl}
use Rattle.tre_zone.proofs.ZoneKeys.{zones_same}
use Rattle.tre_node.specs.Moments.{followed_at}
use Rattle.tre_node.proofs.moments.followed_at.Goals as goal

pub returns : goal.returns
unfolding followed_at
returns c = zones_same _ _ refl refl refl refl c.plus.ensures.key c.plus-2.ensures.key
