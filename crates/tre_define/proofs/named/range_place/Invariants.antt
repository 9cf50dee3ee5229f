use Rattle.std.proofs.Common.{◌≢◌, ℕ, ◌≤◌, get_or}
use Rattle.tre_define.proofs.named.range_place.Given as goal

-- no opening bracket stands from this place on
abbrev pub invariant-loop-place : goal.invariant-loop-place
invariant-loop-place l = (k : ℕ) → l.place ≤ k → get_or l.name k 0 ≢ 91
