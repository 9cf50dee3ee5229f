use Rattle.std.proofs.Common.{◌-◌, ◌≤◌, length}
use Rattle.tre_node.proofs.stretches.place_between.Given as goal

abbrev pub invariant-loop-place : goal.invariant-loop-place
invariant-loop-place l = (l.place ≤ l.end) × (l.end ≤ length l.begun)

abbrev pub decreases-loop-place : goal.decreases-loop-place
decreases-loop-place l = l.end - l.place
