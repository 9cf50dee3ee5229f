use Rattle.std.proofs.Common.{take}
use Rattle.tre_pairs.specs.Pairs.{Either, Lasting}
use Rattle.tre_zone.specs.Longest.{LastsUpTo}
use Rattle.tre_zone.specs.ZoneList.{SetHolds, HoldExactly}
use Rattle.tre_node.proofs.shortening.gather_short.Given as goal

abbrev pub invariant-loop-zone : goal.invariant-loop-zone
invariant-loop-zone l =
    HoldExactly l.found.items (Either (SetHolds l.initial.found.items)
    (Lasting (LastsUpTo l.longest) (SetHolds (take l.zone-index l.zones))))
