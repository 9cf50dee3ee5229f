use Rattle.std.proofs.Common.{ℕ, ◌<◌, ◌≤◌, get_or, string_bytes}
use Rattle.tre_answer.specs.Printing.{HasRoom}
use Rattle.tre_answer.specs.declared.checks.Checked.{Checked}
use Rattle.tre_answer.proofs.verdicts.verdict_room.Given as goal

-- there is room for each name so far
abbrev pub invariant-loop-checked : goal.invariant-loop-checked
invariant-loop-checked l = record {
  least : 65536 ≤ l.most;
  room : (place : ℕ) (other : Checked) → place < l.checked-index
      → HasRoom l.most (string_bytes (get_or l.checks place other).name);
}
