use Rattle.std.proofs.Common.{length}
use Rattle.tre_index.proofs.level.+raise.Given as goal

abbrev pub decreases-raise : goal.decreases-raise
decreases-raise l = length l.levels.now
