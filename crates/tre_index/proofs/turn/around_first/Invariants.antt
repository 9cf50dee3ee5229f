use Rattle.std.proofs.Common.{◌<◌, ◌≤◌, ◌-◌, length, map}
use Rattle.tre_lanes.specs.Rows.{HasNone}
use Rattle.tre_index.proofs.turn.around_first.Given as goal

abbrev pub invariant-loop-step : goal.invariant-loop-step
invariant-loop-step g l =
    (l.from ≤ length l.items) × (0 < l.step)
    × HasNone (map g.T.HasRow.row_of l.items) l.key 0 l.from

abbrev pub decreases-loop-step : goal.decreases-loop-step
decreases-loop-step g l = length l.items - l.from
