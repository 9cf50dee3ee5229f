use Rattle.std.proofs.Common.{take, slice_index_or}
use Rattle.std.proofs.lemmas.List.{take_all, take_more}
use Rattle.tre_trace.specs.Segments.{plain_segment}
use Rattle.tre_trace.proofs.Blocks.{IsUnion-none, IsUnion-more}
use Rattle.tre_trace.proofs.block.union_of.Goals as goal

pub loop-segment-init : goal.loop-segment-init
loop-segment-init c = IsUnion-none

pub loop-segment-preserved : goal.loop-segment-preserved
loop-segment-preserved c =
    let block = c.args.block.now in
    let place = c.loop-segment.segment-index in
    let segment = slice_index_or block place (plain_segment 0 0) in
    rw (take_more block place (plain_segment 0 0) c.loop-segment-test.true)
    (IsUnion-more (take place block) segment c.loop-segment.union c.loop-segment.invariant)

pub returns : goal.returns
returns c =
    rw (take_all c.loop-segment.segment-index c.args.block.now c.loop-segment-test.false) at
    c.loop-segment.invariant
