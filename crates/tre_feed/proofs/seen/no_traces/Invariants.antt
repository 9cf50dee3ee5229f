use Rattle.std.proofs.Common.{◌≡◌, [], map, take}
use Rattle.tre_trace.specs.Trace.{quiet}
use Rattle.tre_feed.proofs.seen.no_traces.Given as goal

-- a trace of no segments for each of the views so far
abbrev pub invariant-loop : goal.invariant-loop
invariant-loop l = record {
  empty : l.traces.items ≡ map (λ view. quiet []) (take l.index l.views);
}
