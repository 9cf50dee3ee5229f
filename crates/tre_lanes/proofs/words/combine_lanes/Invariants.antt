use Rattle.std.proofs.Common.{length, ◌-◌, ◌+◌}
use Rattle.tre_lanes.specs.Words.{CombinedBelow}
use Rattle.tre_lanes.proofs.words.combine_lanes.Given as goal

abbrev pub invariant-loop-at : goal.invariant-loop-at
invariant-loop-at g l = CombinedBelow g.C.Connective.of l.initial.a l.b l.a l.at

abbrev pub decreases-loop-at : goal.decreases-loop-at
decreases-loop-at g l = length l.initial.a + 1 - l.at
