use Rattle.std.proofs.Common.{◌≡◌, ◌++◌, drop}
use Rattle.tre_packed.specs.Times.{offsets_from}
use Rattle.tre_trace.specs.Trace.{end_of}
use Rattle.tre_packed.proofs.offsets.add_far.Given as goal

-- The offsets of the rest are still to come.
abbrev pub invariant-loop-segment : goal.invariant-loop-segment
invariant-loop-segment l = record {
  items : l.items.items ++ offsets_from l.offset (drop l.segment-index l.block)
      ≡ l.fn.items.items ++ offsets_from l.first l.block;
  end : end_of l.offset (drop l.segment-index l.block) ≡ end_of l.first l.block;
}
