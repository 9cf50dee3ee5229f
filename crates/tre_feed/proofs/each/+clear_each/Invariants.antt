use Rattle.std.proofs.Common.{length}
use Rattle.tre_feed.proofs.each.+clear_each.Given as goal

abbrev pub decreases-clear_each : goal.decreases-clear_each
decreases-clear_each g l = length l.each.now
