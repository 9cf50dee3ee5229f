use Rattle.std.proofs.Common.{ap, take, arith}
use Rattle.tre_trace.specs.Trace.{end_of}
use Rattle.tre_trace.specs.Segments.{plain_segment}
use Rattle.tre_trace.proofs.Segments.{end_of-from, end_of-take-le, next-in_time}
use Rattle.tre_trace.proofs.trace.Trace.start_from.Goals as goal

pub loop-segment-init : goal.loop-segment-init
loop-segment-init c =
    rw (c.deref.ensures.value, c.nearest-near.ensures.time, ← c.self.view_is)
    (end_of-from 0 c.self.inside.segments.items c.nearest-near.result.place c.args.place
    c.nearest-near.ensures.order)

pub overflow_add-time : goal.overflow_add-time
overflow_add-time c =
    let trace = c.self.invariant.0 in
    omega (
      arith,
      trace.in_time,
      end_of-take-le 0 c.self.inside.segments.items c.args.place,
      next-in_time _ c.loop-segment.segment-index c.loop-segment.time
          (end_of 0 (take c.args.place c.args.self.now.segments)) (plain_segment 0 0)
          c.loop-segment-test.true (omega (arith, c.loop-segment.invariant)),
      ap (λ trace. end_of 0 (take c.args.place trace.segments)) c.self.view_is,
    )
