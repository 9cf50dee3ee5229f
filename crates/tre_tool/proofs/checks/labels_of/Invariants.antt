use Rattle.std.proofs.Common.{◌≡◌, ◌++◌, map, string_bytes, take}
use Rattle.tre_tool.specs.Checks.{names_each}
use Rattle.tre_tool.proofs.checks.labels_of.Given as goal

-- the checks before this one have their labels
abbrev pub invariant-loop-place : goal.invariant-loop-place
invariant-loop-place l =
    map string_bytes l.labels.items
    ≡ map (λ name. name ++ l.behind)
    (names_each (take l.place l.names) (take l.place l.forms))
