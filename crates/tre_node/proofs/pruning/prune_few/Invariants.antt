use Rattle.std.proofs.Common.{◌-◌, ◌≤◌, length}
use Rattle.tre_zone.specs.ZoneList.{SetHolds, HoldExactly}
use Rattle.tre_node.proofs.pruning.prune_few.Given as goal

abbrev pub invariant-loop-place : goal.invariant-loop-place
invariant-loop-place l =
    HoldExactly l.zones.items (SetHolds l.initial.zones.items) × (l.place ≤ length l.zones.items)

abbrev pub decreases-loop-place : goal.decreases-loop-place
decreases-loop-place l = length l.zones.items - l.place
