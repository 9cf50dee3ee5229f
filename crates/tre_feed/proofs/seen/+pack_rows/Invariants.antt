use Rattle.std.proofs.Common.{length}
use Rattle.tre_feed.proofs.seen.+pack_rows.Given as goal

abbrev pub decreases-pack_rows : goal.decreases-pack_rows
decreases-pack_rows g l = length l.views.now
