use Rattle.std.proofs.Common.{◌≡◌, replicate, string_bytes}
use Rattle.tre_watch.proofs.add.shifted.Given as goal

abbrev pub invariant-loop : goal.invariant-loop
invariant-loop l = string_bytes l.made ≡ replicate l.counter 32
