use Rattle.std.proofs.Common.{[], refl}
use Rattle.tre_feed.proofs.shares.alone.Goals as goal

pub returns : goal.returns
returns c = c.own.ensures [] refl
