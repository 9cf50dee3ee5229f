use Rattle.std.proofs.Common.{take}
use Rattle.tre_pairs.specs.Pairs.{Either, Lasting}
use Rattle.tre_zone.specs.Interval.{LastsWithin}
use Rattle.tre_zone.specs.ZoneList.{SetHolds, HoldExactly}
use Rattle.tre_node.proofs.combining.gather_within.Given as goal

abbrev pub invariant-loop-zone : goal.invariant-loop-zone
invariant-loop-zone l =
    HoldExactly l.found.items (Either (SetHolds l.initial.found.items)
    (Lasting (LastsWithin l.interval) (SetHolds (take l.zone-index l.zones))))
