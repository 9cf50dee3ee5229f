use Rattle.std.proofs.Common.{◌/◌, arith}
use Rattle.tre_trace.proofs.Blocks.{IsPut-set}
use Rattle.tre_trace.proofs.plane.Plane.put_word.Goals as goal

pub returns : goal.returns
returns c =
    rw c.self-2.view_is
    (IsPut-set c.args.self.now c.stretch.new.self (c.args.place / 64) c.args.word
    c.in_ok-stretch.ensures.stretched (omega (arith, c.in_ok-stretch.ensures.ok)))
