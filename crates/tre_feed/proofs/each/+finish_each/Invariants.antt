use Rattle.std.proofs.Common.{length}
use Rattle.tre_feed.proofs.each.+finish_each.Given as goal

abbrev pub decreases-finish_each : goal.decreases-finish_each
decreases-finish_each g l = length l.each.now
