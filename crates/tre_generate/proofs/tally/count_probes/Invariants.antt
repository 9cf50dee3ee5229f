use Rattle.std.proofs.Common.{◌≡◌, take}
use Rattle.tre_trace.specs.Trace.{end_of}
use Rattle.tre_generate.specs.Tallies.{IsTally}
use Rattle.tre_generate.proofs.tally.count_probes.Given as goal

abbrev pub invariant-loop-segment : goal.invariant-loop-segment
invariant-loop-segment l = record {
  begin : l.begin ≡ end_of 0 (take l.segment-index l.segment-items);
  tally : IsTally l.whole l.told l.segment-items l.segment-index l.tally;
}
