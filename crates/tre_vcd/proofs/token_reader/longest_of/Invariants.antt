use Rattle.std.proofs.Common.{◌≤◌, length, take}
use Rattle.std.specs.Prelude.{All}
use Rattle.tre_vcd.proofs.token_reader.longest_of.Given as goal

-- none of the names so far is longer
abbrev pub invariant-loop-number : goal.invariant-loop-number
invariant-loop-number l = All (λ name. length name ≤ l.longest) (take l.number l.names)
