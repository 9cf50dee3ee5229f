use Rattle.std.proofs.Common.{◌≡◌, take}
use Rattle.tre_vcd.specs.VcdReading.{of_changes}
use Rattle.tre_vcd.proofs.definitions.of_changes.Given as goal

-- those so far that are of events are copied
abbrev pub invariant-loop-definition : goal.invariant-loop-definition
invariant-loop-definition l =
    l.changing.items ≡ of_changes (take l.definition-index l.definitions)
