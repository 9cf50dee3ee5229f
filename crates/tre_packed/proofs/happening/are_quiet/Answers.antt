use Rattle.std.proofs.Common.{take, slice_index_or}
use Rattle.std.proofs.lemmas.List.{take_all, take_more}
use Rattle.std.proofs.lemmas.List.Elements.{All-more}
use Rattle.tre_packed.specs.Said.{HasBits}
use Rattle.tre_trace.specs.Segments.{plain_segment}
use Rattle.tre_packed.proofs.Sayings.{quiet-more}
use Rattle.tre_packed.proofs.happening.are_quiet.Goals as goal

pub loop-segment-preserved : goal.loop-segment-preserved
loop-segment-preserved c =
    let block = c.args.block.now in
    let index = c.loop-segment.segment-index in
    let within = c.loop-segment-test.true in
    let segment = slice_index_or block index (plain_segment 0 0) in record {
      quiet =
          rw (take_more block index (plain_segment 0 0) within, c.events_of-events.ensures.events)
          (quiet-more (take index block) segment c.loop-segment.events
          c.loop-segment.invariant.quiet);
      bits =
          All-more HasBits block index (plain_segment 0 0) within c.loop-segment.invariant.bits
          c.events_of-events.ensures.bits;
    }

pub returns-clause-bits : goal.returns-clause-bits
returns-clause-bits c =
    rw (take_all c.loop-segment.segment-index c.args.block.now c.loop-segment-test.false) at
    c.loop-segment.invariant.bits
