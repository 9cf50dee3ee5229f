use Rattle.std.proofs.Common.{length}
use Rattle.tre_vcd.proofs.pairs.+declare_each.Given as goal

abbrev pub decreases-declare_each : goal.decreases-declare_each
decreases-declare_each l = length l.list.now
