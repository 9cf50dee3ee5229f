use Rattle.std.proofs.Common.{◌≡◌, ◌≤◌, length}
use Rattle.std.specs.Prelude.{IsPermutation}
use Rattle.tre_show.proofs.order.move_forward.Given as goal

abbrev pub invariant-loop-at : goal.invariant-loop-at
invariant-loop-at l = record {
  within : l.at ≤ l.place;
  long : length l.zones ≡ length l.fn.zones;
  same : IsPermutation l.fn.zones l.zones;
}

abbrev pub decreases-loop-at : goal.decreases-loop-at
decreases-loop-at l = l.at
