use Rattle.std.proofs.Common.{take}
use Rattle.tre_minus.proofs.Cutting.{IsCutOn, six}
use Rattle.tre_minus.proofs.cut.cut.Given as goal

abbrev pub invariant-loop-side : goal.invariant-loop-side
invariant-loop-side l =
    IsCutOn (take l.side-index six) l.zone l.taken l.from l.side-index l.initial.parts.items
    l.parts.items l.inside
