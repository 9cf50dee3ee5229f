use Rattle.std.proofs.Common.{◌≡◌, take}
use Rattle.tre_vcd.proofs.definitions.copy_of.Given as goal

-- those so far are copied
abbrev pub invariant-loop-definition : goal.invariant-loop-definition
invariant-loop-definition l = l.copies.items ≡ take l.definition-index l.definitions
