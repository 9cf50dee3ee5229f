use Rattle.std.proofs.Common.{◌≤◌, length, take}
use Rattle.std.specs.Prelude.{All}
use Rattle.tre_vcd.proofs.found.longest_in.Given as goal

-- none of the names so far is longer
abbrev pub invariant-loop-name : goal.invariant-loop-name
invariant-loop-name l = All (λ name. length name.items ≤ l.longest) (take l.name-index l.names)
