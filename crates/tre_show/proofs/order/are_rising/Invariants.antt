use Rattle.std.proofs.Common.{◌≡◌, ℕ, ◌+◌, ◌<◌, false, get_or}
use Rattle.std.specs.Ordering.{is_lt}
use Rattle.tre_zone.specs.declared.zone_bounds.ZoneBounds.{ZoneBounds}
use Rattle.tre_show.specs.Order.{compare_lines}
use Rattle.tre_show.proofs.order.are_rising.Given as goal

abbrev pub invariant-loop-place : goal.invariant-loop-place
invariant-loop-place l = (k : ℕ) (d : ZoneBounds) → k + 1 < l.place
    → is_lt (compare_lines (get_or l.zones (k + 1) d) (get_or l.zones k d)) ≡ false
