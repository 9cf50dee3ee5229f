use Rattle.std.proofs.Common.{◌≡◌, ℕ, List, [], length, take}
use Rattle.tre_vcd.specs.Pairs.{KnowsPairs}
use Rattle.tre_vcd.proofs.signals.pairs_of.Given as goal

-- the names so far have their definitions
abbrev pub invariant-loop-number : goal.invariant-loop-number
invariant-loop-number l = record {
  len : length l.pairs.list.items ≡ l.number;
  knows : (sieve : List ℕ) → KnowsPairs l.all (take l.number l.names) sieve l.pairs [];
}
