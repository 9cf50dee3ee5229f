use Rattle.std.proofs.Common.{take}
use Rattle.tre_pairs.specs.Pairs.{Either, Composed}
use Rattle.tre_zone.specs.ZoneList.{SetHolds, HoldExactly}
use Rattle.tre_node.proofs.vectors.gather_each.Given as goal

abbrev pub invariant-loop-other : goal.invariant-loop-other
invariant-loop-other l =
    HoldExactly l.found.items (Either (SetHolds l.initial.found.items)
    (Composed (SetHolds l.first) (SetHolds (take l.other-index l.second))))
