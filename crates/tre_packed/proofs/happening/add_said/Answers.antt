use Rattle.std.proofs.Common.{◌∷◌, [], ◌+◌, take, slice_index_or, arith}
use Rattle.std.proofs.lemmas.List.{append_assoc, length-take-le, take_more}
use Rattle.std.proofs.lemmas.List.Elements.{All-more}
use Rattle.tre_packed.specs.Said.{said_from, HasBits}
use Rattle.tre_trace.specs.Segments.{plain_segment}
use Rattle.tre_packed.proofs.Sayings.{said_from-append}
use Rattle.tre_packed.proofs.happening.add_said.Goals as goal

pub loop-index-preserved : goal.loop-index-preserved
loop-index-preserved c =
    let block = c.args.block.now in
    let index = c.loop-index.index in
    let within = c.loop-index-test.true in
    let front = take index block in
    let segment = slice_index_or block index (plain_segment 0 0) in
    let size = length-take-le index block (omega (arith, within)) in
    record {
      said =
          rw (
            take_more block index (plain_segment 0 0) within,
            said_from-append c.args.place front (segment ∷ []),
            size,
            c.in_ok-say.ensures.said,
            c.loop-index.invariant.said,
          )
          (append_assoc c.args.said.now.items (said_from c.args.place front)
          (said_from (c.args.place + index) (segment ∷ [])));
      bits =
          All-more HasBits block index (plain_segment 0 0) within c.loop-index.invariant.bits
          c.say.ensures.bits;
    }
