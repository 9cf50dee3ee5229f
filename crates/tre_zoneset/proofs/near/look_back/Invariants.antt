use Rattle.tre_zoneset.proofs.NearZones.{IsApartBehind}
use Rattle.tre_zoneset.proofs.near.look_back.Given as goal

abbrev pub invariant-loop-place : goal.invariant-loop-place
invariant-loop-place l = IsApartBehind l.zone l.kept l.place

abbrev pub decreases-loop-place : goal.decreases-loop-place
decreases-loop-place l = l.place
