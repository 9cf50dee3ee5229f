use Rattle.tre_lanes.specs.Words.{CombinedBelow}
use Rattle.tre_lanes.proofs.words.combine.Given as goal

abbrev pub invariant-loop-i : goal.invariant-loop-i
invariant-loop-i g l = CombinedBelow g.C.Connective.of l.fn.a l.b l.a l.i
