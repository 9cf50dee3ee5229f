use Rattle.std.proofs.Common.{◌<◌, length}
use Rattle.tre_node.specs.Stretches.{SameMoments}
use Rattle.tre_node.proofs.stretches.join_next.Given as goal

abbrev pub invariant-loop-begun : goal.invariant-loop-begun
invariant-loop-begun l =
    SameMoments l.initial.begun.items l.begun.items × (l.place < length l.begun.items)

abbrev pub decreases-loop-begun : goal.decreases-loop-begun
decreases-loop-begun l = length l.begun.items
