use Rattle.std.proofs.Common.{◌≡◌, drop, take}
use Rattle.tre_trace.specs.Trace.{end_of}
use Rattle.tre_trace.proofs.trace.Trace.start_from.Given as goal

abbrev pub invariant-loop-segment : goal.invariant-loop-segment
invariant-loop-segment l =
    end_of l.time (drop l.segment-index l.segment-items) ≡ end_of 0 (take l.place l.self.segments)
