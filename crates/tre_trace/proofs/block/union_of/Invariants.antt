use Rattle.std.proofs.Common.{take}
use Rattle.tre_trace.specs.Block.{IsUnion}
use Rattle.tre_trace.proofs.block.union_of.Given as goal

abbrev pub invariant-loop-segment : goal.invariant-loop-segment
invariant-loop-segment l = IsUnion (take l.segment-index l.block) l.union
