use Rattle.std.proofs.Common.{arith}
use Rattle.std.proofs.lemmas.List.{get_or_read}
use Rattle.tre_trace.proofs.Words.{IsWritten-set}
use Rattle.tre_trace.proofs.plane.Plane.write.Goals as goal

pub returns-then-bit-eq1 : goal.returns-then-bit-eq1
returns-then-bit-eq1 c =
    let room = rw (← c.self.view_is) at (c.requires.room.needed c.if-bit-eq1.true) in
    rw (
      ← c.self.view_is,
      get_or_read c.self.inside.words.items _ c.index_mut.result.now (omega (arith, room))
          c.index_mut.ensures.value 0,
    )
    (IsWritten-set c.self.inside.words.items c.args.place c.args.bit (omega (arith, room))
    c.if-bit-eq1.true)
