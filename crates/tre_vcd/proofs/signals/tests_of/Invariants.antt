use Rattle.std.proofs.Common.{◌≡◌, [], length, take}
use Rattle.tre_vcd.specs.Signals.{KnowsTests}
use Rattle.tre_vcd.proofs.signals.tests_of.Given as goal

-- the names so far have their definitions
abbrev pub invariant-loop-number : goal.invariant-loop-number
invariant-loop-number l = record {
  len : length l.tests.list.items ≡ l.number;
  knows : KnowsTests l.all (take l.number l.names) l.tests [];
}
