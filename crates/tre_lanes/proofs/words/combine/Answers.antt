use Rattle.std.proofs.Common.{arith}
use Rattle.tre_lanes.proofs.Combining.{combined_all}
use Rattle.tre_lanes.proofs.words.combine.Goals as goal

pub returns : goal.returns
returns g c =
    combined_all g.C.Connective.of c.args.a.now c.args.b.now c.loop-i.a c.loop-i.i c.requires
    c.loop-i.invariant (omega arith)
