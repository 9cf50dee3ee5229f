use Rattle.std.proofs.Common.{length}
use Rattle.tre_feed.proofs.each.+cut_each.Given as goal

abbrev pub decreases-cut_each : goal.decreases-cut_each
decreases-cut_each g l = length l.each.now
