use Rattle.std.proofs.Common.{◌-◌, length}
use Rattle.tre_pairs.specs.Pairs.{Both}
use Rattle.tre_zone.specs.Zone.{ZoneHolds}
use Rattle.tre_zoneset.proofs.Searching.{HoldsFirst}
use Rattle.tre_zoneset.proofs.zone_set.gather_meets.Given as goal

abbrev pub invariant-loop-place : goal.invariant-loop-place
invariant-loop-place l =
    HoldsFirst (Both (ZoneHolds l.zone)) l.initial.found.items l.others l.place l.found.items

abbrev pub decreases-loop-place : goal.decreases-loop-place
decreases-loop-place l = length l.others - l.place
