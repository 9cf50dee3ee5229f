use Rattle.std.proofs.Common.{◌≡◌, ℕ, suc, ◌<◌, get_or}
use Rattle.std.specs.declared.cmp.Ordering.TheVariants.{Less}
use Rattle.tre_zone.specs.declared.zone_bounds.ZoneBounds.{ZoneBounds}
use Rattle.tre_strips.specs.Listed.{compare_lines}
use Rattle.tre_strips.proofs.canonical.are_rising.Given as goal

abbrev pub invariant-loop-place : goal.invariant-loop-place
invariant-loop-place l = (k : ℕ) (d : ZoneBounds) → suc k < l.place
    → compare_lines (get_or l.zones k d) (get_or l.zones (suc k) d) ≡ Less
