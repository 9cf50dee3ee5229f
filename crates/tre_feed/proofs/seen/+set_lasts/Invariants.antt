use Rattle.std.proofs.Common.{length}
use Rattle.tre_feed.proofs.seen.+set_lasts.Given as goal

abbrev pub decreases-set_lasts : goal.decreases-set_lasts
decreases-set_lasts g l = length l.views.now
