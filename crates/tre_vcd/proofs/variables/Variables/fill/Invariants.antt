use Rattle.std.proofs.Common.{◌≡◌, ℕ, List, Option, length}
use Rattle.tre_vcd.specs.Kept.{KeepsNames}
use Rattle.tre_vcd.proofs.variables.Variables.fill.Given as goal

-- there are this many variables, and no more is known than before
abbrev pub invariant-loop : goal.invariant-loop
invariant-loop l = record {
  len : length l.self.list.items ≡ l.counter;
  known : (identified : List ℕ → Option (List ℕ)) → KeepsNames identified l.names l.initial.self
      → KeepsNames identified l.names l.self;
}
