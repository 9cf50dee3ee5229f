use Rattle.std.proofs.Common.{length}
use Rattle.tre_minus.specs.Parts.{work_of}
use Rattle.tre_minus.proofs.Comparing.{AreSame}
use Rattle.tre_minus.proofs.difference.compare_all.Given as goal

abbrev pub invariant-loop-part : goal.invariant-loop-part
invariant-loop-part l =
    AreSame l.taken l.initial.found.items l.initial.parts.items l.found.items l.parts.items

abbrev pub decreases-loop-part : goal.decreases-loop-part
decreases-loop-part l = work_of (length l.taken) l.parts.items
