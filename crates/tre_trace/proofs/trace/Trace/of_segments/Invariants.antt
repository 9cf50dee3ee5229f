use Rattle.std.proofs.Common.{◌≡◌, ◌*◌, take}
use Rattle.tre_trace.specs.Trace.{end_of}
use Rattle.tre_trace.specs.Beside.{AreBeside}
use Rattle.tre_trace.proofs.trace.Trace.of_segments.Given as goal

abbrev pub invariant-loop-block : goal.invariant-loop-block
invariant-loop-block l = record {
  beside : AreBeside (take (l.block * 64) l.segments.items) l.planes;
  end : l.end ≡ end_of 0 (take (l.block * 64) l.segments.items);
}
