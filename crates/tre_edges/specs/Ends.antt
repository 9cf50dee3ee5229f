-- When the pairs of a list of zones end.
use Rattle.std.specs.Prelude.{ℕ, ◌*◌, ◌<◌, ◌≤◌, List}
use Rattle.tre_zone.specs.ZoneList.{SetHolds}
use Rattle.tre_zone.specs.declared.zone_bounds.ZoneBounds.{ZoneBounds}

-- Each pair of the zones ends before the time t.
pub record EndBefore (t : ℕ) (zones : List ZoneBounds) : Type 0 where
  pub every : (a b n : ℕ) → 0 < n → a ≤ b → SetHolds zones a b n → b < t * n
