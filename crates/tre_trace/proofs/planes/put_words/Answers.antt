use Rattle.std.proofs.Common.{◌<◌, ◌/◌, length, arith}
use Rattle.tre_trace.proofs.Blocks.{told_more, left_more}
use Rattle.tre_trace.proofs.planes.put_words.Goals as goal

pub loop-number-preserved : goal.loop-number-preserved
loop-number-preserved c =
    let own = c.loop-number.own in
    let number = c.loop-number.number in
    let item = c.index-own-number.result in
    let new = c.put_word.new.self in
    let within : number < length own =
    omega (arith, c.loop-number-test.true, c.loop-number.auto.own) in
    record {
      told =
          told_more own number item new within c.args.own.now (c.args.place / 64)
          c.word_of.result c.args.block.now c.loop-number.invariant.told
          (c.loop-number.invariant.left number (omega arith)) c.word_of.ensures
          c.in_ok-put_word.ensures;
      left =
          left_more own number item new within c.args.own.now c.loop-number.invariant.left;
    }
