use Rattle.std.proofs.Common.{length}
use Rattle.tests_matching.proofs.reading.+tell_from.Given as goal

abbrev pub decreases-tell_from : goal.decreases-tell_from
decreases-tell_from l = length l.rows.now
