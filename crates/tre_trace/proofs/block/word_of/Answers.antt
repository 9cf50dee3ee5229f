use Rattle.std.proofs.Common.{take, slice_index_or, arith}
use Rattle.std.proofs.lemmas.List.{length-take-le, take_more}
use Rattle.tre_trace.specs.Segments.{plain_segment}
use Rattle.tre_trace.proofs.Blocks.{SaysSoFar-none, SaysSoFar-more}
use Rattle.tre_trace.proofs.block.word_of.Goals as goal

pub loop-place-init : goal.loop-place-init
loop-place-init c = SaysSoFar-none c.args.number

pub loop-place-preserved : goal.loop-place-preserved
loop-place-preserved c =
    let block = c.args.block.now in
    let place = c.loop-place.place in
    let segment = slice_index_or block place (plain_segment 0 0) in
    rw (
      take_more block place (plain_segment 0 0) c.loop-place-test.true,
      c.bit_of-in-loop-place.ensures,
    )
    (SaysSoFar-more c.args.number (take place block) segment c.loop-place.word place
    (length-take-le place block (omega (arith, c.loop-place-test.true)))
    (omega (arith, c.loop-place-test.true, c.requires.few)) c.loop-place.invariant)
