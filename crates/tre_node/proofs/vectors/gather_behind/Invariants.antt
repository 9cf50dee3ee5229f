use Rattle.std.proofs.Common.{take}
use Rattle.tre_pairs.specs.Pairs.{Either, Composed}
use Rattle.tre_zone.specs.Zone.{ZoneHolds}
use Rattle.tre_zone.specs.ZoneList.{SetHolds, HoldExactly}
use Rattle.tre_node.proofs.vectors.gather_behind.Given as goal

abbrev pub invariant-loop-one : goal.invariant-loop-one
invariant-loop-one l =
    HoldExactly l.found.items (Either (SetHolds l.initial.found.items)
    (Composed (SetHolds (take l.one-index l.first)) (ZoneHolds l.second)))
