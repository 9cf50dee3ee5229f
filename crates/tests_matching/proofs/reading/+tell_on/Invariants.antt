use Rattle.std.proofs.Common.{length}
use Rattle.tests_matching.proofs.reading.+tell_on.Given as goal

abbrev pub decreases-tell_on : goal.decreases-tell_on
decreases-tell_on l = length l.rows.now
