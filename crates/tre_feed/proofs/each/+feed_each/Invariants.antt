use Rattle.std.proofs.Common.{length}
use Rattle.tre_feed.proofs.each.+feed_each.Given as goal

abbrev pub decreases-feed_each : goal.decreases-feed_each
decreases-feed_each g l = length l.each.now
