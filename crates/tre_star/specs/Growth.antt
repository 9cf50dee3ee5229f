-- Lists of zones that grow while the closure goes on.
use Rattle.std.specs.Prelude.{◌≡◌, ◌+◌, ◌^◌, ◌≤◌, List, ◌++◌, length}
use Rattle.tre_zone.specs.ZoneList.{AreCanonical}
use Rattle.tre_zone.specs.declared.zone_bounds.ZoneBounds.{ZoneBounds}
use Rattle.tre_star.specs.Rows.{missed}

-- Zones were put behind those that were there, and each of them makes the rows fewer that no zone
-- reaches: so the closure ends.
pub record HasGrown (old new : List ZoneBounds) : Type 0 where
  pub canonical : AreCanonical new
  pub more : List ZoneBounds
  pub behind : new ≡ old ++ more
  pub fewer : missed (2 ^ 42) new + length new ≤ missed (2 ^ 42) old + length old
