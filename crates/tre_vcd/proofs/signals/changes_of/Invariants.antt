use Rattle.std.proofs.Common.{◌≡◌, [], length, take}
use Rattle.tre_vcd.specs.Signals.{KnowsChanges}
use Rattle.tre_vcd.proofs.signals.changes_of.Given as goal

-- the names so far have their definitions
abbrev pub invariant-loop-number : goal.invariant-loop-number
invariant-loop-number l = record {
  len : length l.changes.list.items ≡ l.number;
  knows : KnowsChanges l.all (take l.number l.names) l.changes [];
}
