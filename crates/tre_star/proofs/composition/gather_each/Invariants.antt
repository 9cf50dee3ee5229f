use Rattle.std.proofs.Common.{take}
use Rattle.tre_pairs.specs.Pairs.{Either, Composed, Lasting}
use Rattle.tre_zone.specs.Longest.{LastsUpTo}
use Rattle.tre_zone.specs.Zone.{ZoneHolds}
use Rattle.tre_zone.specs.ZoneList.{SetHolds, HoldExactly}
use Rattle.tre_star.proofs.composition.gather_each.Given as goal

abbrev pub invariant-loop-next : goal.invariant-loop-next
invariant-loop-next l =
    HoldExactly l.found.items (Either (SetHolds l.initial.found.items)
    (Lasting (LastsUpTo l.longest)
    (Composed (ZoneHolds l.zone) (SetHolds (take l.next-index l.second)))))
