use Rattle.std.proofs.Common.{arith}
use Rattle.std.proofs.lemmas.List.{get_or_read}
use Rattle.tre_trace.proofs.Words.{IsWritten-set}
use Rattle.tre_packed.proofs.happening.write_bit.Goals as goal

pub returns-then-bit-eq1 : goal.returns-then-bit-eq1
returns-then-bit-eq1 c =
    let words = c.args.words.now.items in
    rw (get_or_read words _ c.index_mut.result.now (omega (arith, c.requires.within))
    c.index_mut.ensures.value 0)
    (IsWritten-set words c.args.place c.args.bit (omega (arith, c.requires.within))
    c.if-bit-eq1.true)
