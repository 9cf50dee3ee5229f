use Rattle.std.proofs.Common.{take}
use Rattle.tre_pairs.specs.Pairs.{Both}
use Rattle.tre_zone.specs.ZoneList.{SetHolds, HoldExactly}
use Rattle.tre_zoneset.proofs.zone_set.meets_in_turn.Given as goal

abbrev pub invariant-loop-zone : goal.invariant-loop-zone
invariant-loop-zone l = HoldExactly l.found.items
    (Both (SetHolds (take l.zone-index l.zones)) (SetHolds l.others))
