use Rattle.std.proofs.Common.{length}
use Rattle.tre_node.specs.Telling.{CutsBegun}
use Rattle.tre_node.proofs.holding.cut_begun.Given as goal

abbrev pub invariant-loop-longest : goal.invariant-loop-longest
invariant-loop-longest l = CutsBegun l.longest l.time l.initial.begun.items l.begun.items

abbrev pub decreases-loop-longest : goal.decreases-loop-longest
decreases-loop-longest l = length l.begun.items
