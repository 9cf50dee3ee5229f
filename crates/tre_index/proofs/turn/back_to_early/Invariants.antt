use Rattle.std.proofs.Common.{◌<◌, ◌≤◌, length}
use Rattle.tre_index.proofs.turn.back_to_early.Given as goal

abbrev pub invariant-loop-place : goal.invariant-loop-place
invariant-loop-place g l = (l.place ≤ length l.items) × (0 < l.step)

abbrev pub decreases-loop-place : goal.decreases-loop-place
decreases-loop-place g l = l.place
