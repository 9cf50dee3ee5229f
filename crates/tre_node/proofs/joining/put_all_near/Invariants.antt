use Rattle.std.proofs.Common.{take}
use Rattle.tre_node.specs.Outer.{JoinsAll}
use Rattle.tre_node.proofs.joining.put_all_near.Given as goal

abbrev pub invariant-loop-zone : goal.invariant-loop-zone
invariant-loop-zone l =
    JoinsAll l.initial.outer.items (take l.zone-index l.zones) l.outer.items
