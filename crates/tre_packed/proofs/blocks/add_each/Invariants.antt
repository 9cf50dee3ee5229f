use Rattle.std.proofs.Common.{◌≡◌, ◌++◌, List, length, take, drop}
use Rattle.tre_trace.specs.Beside.{AreBeside}
use Rattle.tre_trace.specs.Trace.{end_of}
use Rattle.tre_trace.specs.declared.segment.Segment.{Segment}
use Rattle.tre_packed.proofs.blocks.add_each.Given as goal

-- What is beside the segments before the index is added.
abbrev pub invariant-loop-index : goal.invariant-loop-index
invariant-loop-index l = record {
  beside : (front : List Segment) → l.count ≡ length front → l.end ≡ end_of 0 front
      → AreBeside front l.fn.planes
      → (l.time ≡ end_of 0 (front ++ take l.index l.block))
      × AreBeside (front ++ take l.index l.block) l.planes;
  left : end_of l.time (drop l.index l.block) ≡ end_of l.end l.block;
}
