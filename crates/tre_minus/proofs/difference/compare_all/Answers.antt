use Rattle.std.proofs.Common.{arith}
use Rattle.tre_minus.proofs.Comparing.{AreSame-all}
use Rattle.tre_minus.proofs.difference.compare_all.Goals as goal

pub returns-clause-held : goal.returns-clause-held
returns-clause-held c =
    AreSame-all c.args.taken.now c.args.found.now.items c.args.parts.now.items
    c.loop-part.found.items c.loop-part.parts.items (omega (arith, c.in_default.ensures.cases))
    c.loop-part.invariant
