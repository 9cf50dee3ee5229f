use Rattle.std.proofs.Common.{◌≡◌, ◌++◌, take}
use Rattle.tre_node.proofs.vectors.put_behind.Given as goal

abbrev pub invariant-loop-zone : goal.invariant-loop-zone
invariant-loop-zone l = l.found.items ≡ l.initial.found.items ++ take l.zone-index l.zones
