use Rattle.std.proofs.Common.{◌<◌, [], length, arith}
use Rattle.std.proofs.lemmas.Nat.Bits.{bit_at-lt}
use Rattle.tre_trace.proofs.Beside.{room_here, written_more}
use Rattle.tre_trace.proofs.Blocks.{left_more}
use Rattle.tre_trace.proofs.planes.write.Goals as goal

pub write-requires-clause-bit : goal.write-requires-clause-bit
write-requires-clause-bit c =
    omega (arith, c.bit_of.ensures, bit_at-lt c.args.valuation c.loop-number.number)

pub write-requires-clause-room : goal.write-requires-clause-room
write-requires-clause-room c =
    let own = c.loop-number.own in
    let number = c.loop-number.number in
    let within : number < length own =
    omega (arith, c.loop-number-test.true, c.loop-number.auto.own) in
    room_here own number c.index-own-number.result [] within c.args.own.now c.args.place
    c.args.valuation c.bit_of.result c.bit_of.ensures
    (c.loop-number.invariant.left number (omega arith))
    (c.requires.room number c.loop-number-test.true)

pub loop-number-preserved : goal.loop-number-preserved
loop-number-preserved c =
    let own = c.loop-number.own in
    let number = c.loop-number.number in
    let item = c.index-own-number.result in
    let new = c.write.new.self in
    let within : number < length own =
    omega (arith, c.loop-number-test.true, c.loop-number.auto.own) in
    record {
      written =
          written_more own number item new within c.args.own.now c.args.place c.args.valuation
          c.bit_of.result c.bit_of.ensures c.loop-number.invariant.written
          (c.loop-number.invariant.left number (omega arith)) c.write.ensures;
      left =
          left_more own number item new within c.args.own.now c.loop-number.invariant.left;
    }

pub returns : goal.returns
returns c = λ number below.
    c.loop-number.invariant.written number
    (omega (arith, below, c.loop-number-test.false, c.loop-number.auto.own))
