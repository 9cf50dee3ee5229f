use Rattle.std.proofs.Common.{ℕ, ◌<◌, get_or}
use Rattle.std.specs.Prelude.{pos, ◌≤ℤ◌}
use Rattle.tre_index.proofs.row.reaches.Given as goal

abbrev pub invariant-loop-lane : goal.invariant-loop-lane
invariant-loop-lane l = (k : ℕ) → k < l.lane → get_or l.key k (pos 0) ≤ℤ get_or l.row k (pos 0)
