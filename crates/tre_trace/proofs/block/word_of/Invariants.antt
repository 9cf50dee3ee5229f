use Rattle.std.proofs.Common.{take}
use Rattle.tre_trace.proofs.Blocks.{SaysSoFar}
use Rattle.tre_trace.proofs.block.word_of.Given as goal

abbrev pub invariant-loop-place : goal.invariant-loop-place
invariant-loop-place l = SaysSoFar l.number (take l.place l.block) l.word
