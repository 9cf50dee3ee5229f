use Rattle.std.proofs.Common.{◌≡◌, drop}
use Rattle.tre_trace.specs.Trace.{end_of}
use Rattle.tre_trace.proofs.block.end_of.Given as goal

abbrev pub invariant-loop-segment : goal.invariant-loop-segment
invariant-loop-segment l = end_of l.end (drop l.segment-index l.block) ≡ end_of l.begin l.block
