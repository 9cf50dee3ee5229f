use Rattle.std.proofs.Common.{arith}
use Rattle.tre_trace.proofs.trace.Trace.plane.Goals as goal

pub plane-requires-clause-beside : goal.plane-requires-clause-beside
plane-requires-clause-beside c = (
  c.self.inside.end,
  record {
    segments = c.self.inside.segments.items;
    same = omega (arith, c.len.ensures);
    ends = c.self.invariant.1;
    beside = c.self.invariant.2;
  },
)
