use Rattle.std.proofs.Common.{◌<◌, length, arith, rules}
use Rattle.std.proofs.lemmas.Nat.Bits.{bit_at-lt}
use Rattle.tre_trace.proofs.Beside.{IsStretched-refl, stretched_more, room_more}
use Rattle.tre_trace.proofs.planes.make_room.Goals as goal

pub loop-number-init : goal.loop-number-init
loop-number-init c = search (rules, IsStretched-refl)

pub make_room-requires : goal.make_room-requires
make_room-requires c =
    omega (arith, c.bit_of.ensures, bit_at-lt c.args.valuation c.loop-number.number)

pub loop-number-preserved : goal.loop-number-preserved
loop-number-preserved c =
    let own = c.loop-number.own in
    let number = c.loop-number.number in
    let item = c.index-own-number.result in
    let new = c.make_room.new.self in
    let within : number < length own =
    omega (arith, c.loop-number-test.true, c.loop-number.auto.own) in
    record {
      stretched =
          stretched_more own number item new within c.args.own.now _
          c.loop-number.invariant.stretched c.make_room.ensures.stretched;
      room =
          room_more own number item new within c.args.place c.args.valuation
          c.loop-number.invariant.room
          (rw c.bit_of.ensures at c.in_ok-make_room.ensures.ok);
    }

pub returns-in_err-make_room-clause-stretched : goal.returns-in_err-make_room-clause-stretched
returns-in_err-make_room-clause-stretched c =
    let own = c.loop-number.own in
    let number = c.loop-number.number in
    let within : number < length own =
    omega (arith, c.loop-number-test.true, c.loop-number.auto.own) in
    stretched_more own number c.index-own-number.result c.make_room.new.self within
    c.args.own.now _ c.loop-number.invariant.stretched c.make_room.ensures.stretched

pub returns-clause-stretched : goal.returns-clause-stretched
returns-clause-stretched c = c.loop-number.invariant.stretched

pub returns-clause-ok : goal.returns-clause-ok
returns-clause-ok c = λ number below.
    c.loop-number.invariant.room number
    (omega (arith, below, c.loop-number-test.false, c.loop-number.auto.own))
