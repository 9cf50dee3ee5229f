use Rattle.std.proofs.Common.{take}
use Rattle.tre_pairs.specs.Before.{Before}
use Rattle.tre_pairs.specs.Pairs.{Either}
use Rattle.tre_zone.specs.Held.{Held}
use Rattle.tre_node.specs.Outer.{Keeps}
use Rattle.tre_node.proofs.joining.put_early.Given as goal

abbrev pub invariant-loop-zone : goal.invariant-loop-zone
invariant-loop-zone l =
    Keeps l.reach l.time l.initial.outer.items (Either (Held l.initial.outer.items)
    (Before l.time (Held (take l.zone-index l.entering)))) l.outer.items
