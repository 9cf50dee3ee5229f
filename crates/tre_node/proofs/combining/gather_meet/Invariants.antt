use Rattle.std.proofs.Common.{take}
use Rattle.tre_pairs.specs.Pairs.{Either, Both}
use Rattle.tre_zone.specs.Zone.{ZoneHolds}
use Rattle.tre_zone.specs.ZoneList.{SetHolds, HoldExactly}
use Rattle.tre_node.proofs.combining.gather_meet.Given as goal

abbrev pub invariant-loop-other : goal.invariant-loop-other
invariant-loop-other l =
    HoldExactly l.found.items (Either (SetHolds l.initial.found.items)
    (Both (ZoneHolds l.zone) (SetHolds (take l.other-index l.others))))
