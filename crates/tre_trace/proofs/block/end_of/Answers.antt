use Rattle.std.proofs.Common.{arith}
use Rattle.tre_pairs.specs.declared.TheConstants.{TIME_MAX}
use Rattle.tre_trace.specs.Segments.{plain_segment}
use Rattle.tre_trace.proofs.Segments.{next-in_time}
use Rattle.tre_trace.proofs.block.end_of.Goals as goal

pub overflow_add-end : goal.overflow_add-end
overflow_add-end c = omega (
  arith,
  next-in_time c.args.block.now c.loop-segment.segment-index c.loop-segment.end TIME_MAX
      (plain_segment 0 0) c.loop-segment-test.true
      (omega (arith, c.loop-segment.invariant, c.requires)),
)
