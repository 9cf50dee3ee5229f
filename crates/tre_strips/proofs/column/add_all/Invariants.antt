use Rattle.std.proofs.Common.{◌≡◌, ◌++◌, take}
use Rattle.tre_strips.proofs.column.add_all.Given as goal

abbrev pub invariant-loop-zone : goal.invariant-loop-zone
invariant-loop-zone l = l.all.items ≡ l.initial.all.items ++ take l.zone-index l.more
