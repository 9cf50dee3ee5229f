use Rattle.std.proofs.Common.{◌-◌, length}
use Rattle.tre_zoneset.proofs.Searching.{HoldsFirst}
use Rattle.tre_star.proofs.Looking.{After}
use Rattle.tre_star.proofs.composition.gather_after.Given as goal

abbrev pub invariant-loop-place : goal.invariant-loop-place
invariant-loop-place l =
    HoldsFirst (After l.longest l.zone) l.initial.found.items l.seconds l.place l.found.items

abbrev pub decreases-loop-place : goal.decreases-loop-place
decreases-loop-place l = length l.seconds - l.place
