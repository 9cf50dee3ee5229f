use Rattle.std.proofs.Common.{◌≡◌, ◌++◌, take}
use Rattle.tre_node.specs.NodeTree.{begun_at}
use Rattle.tre_node.proofs.holding.put_begun.Given as goal

abbrev pub invariant-loop-stretch : goal.invariant-loop-stretch
invariant-loop-stretch l =
    l.found.items ≡ l.initial.found.items ++ begun_at l.time (take l.stretch-index l.begun)
