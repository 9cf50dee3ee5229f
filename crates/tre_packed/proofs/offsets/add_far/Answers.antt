use Rattle.std.proofs.Common.{◌∙◌, ◌+◌, ◌∷◌, [], drop, slice_index_or, arith}
use Rattle.std.proofs.lemmas.List.{append_assoc, drop_more}
use Rattle.tre_packed.specs.Times.{offsets_from}
use Rattle.tre_trace.proofs.Segments.{next-in_time}
use Rattle.tre_trace.specs.Segments.{plain_segment}
use Rattle.tre_trace.specs.Trace.{end_of}
use Rattle.tre_packed.proofs.offsets.add_far.Goals as goal

pub overflow_add-offset : goal.overflow_add-offset
overflow_add-offset c =
    omega (
      arith,
      c.requires,
      next-in_time c.args.block.now c.loop-segment.segment-index c.loop-segment.offset
          (end_of c.args.first c.args.block.now) (plain_segment 0 0) c.loop-segment-test.true
          (omega (arith, c.loop-segment.invariant.end)),
    )

pub loop-segment-preserved : goal.loop-segment-preserved
loop-segment-preserved c =
    let block = c.args.block.now in
    let index = c.loop-segment.segment-index in
    let offset = c.loop-segment.offset in
    let segment = slice_index_or block index (plain_segment 0 0) in
    let left = drop_more block index (plain_segment 0 0) c.loop-segment-test.true in
    record {
      items =
          rw c.in_ok-push.ensures.items
          (append_assoc c.loop-segment.items.items (offset ∷ [])
          (offsets_from (offset + segment.len) (drop (index + 1) block))
          ∙ (rw left at c.loop-segment.invariant.items));
      end = rw left at c.loop-segment.invariant.end;
    }
