-- Durations up to a longest one.
use Rattle.std.specs.Prelude.{ℕ, ◌-◌, ◌<◌, ◌≤◌, ◌*◌, Option, MatchOption}
use Rattle.tre_pairs.specs.declared.TheConstants.{TIME_MAX}
use Rattle.tre_zone.specs.Zone.{ZoneHolds}
use Rattle.tre_zone.specs.declared.zone_bounds.ZoneBounds.{ZoneBounds}

-- The duration d/n is at most the longest, where there is one.
pub record LastsUpTo (longest : Option ℕ) (d n : ℕ) : Type 0 where
  pub within : MatchOption longest (Unit {0}) (λ high. d ≤ high * n)

-- The longest duration, where there is one, can be named.
pub record IsLongest (longest : Option ℕ) : Type 0 where
  pub limit : MatchOption longest (Unit {0}) (λ high. high ≤ TIME_MAX)

-- Every pair of the zone lasts up to the longest duration.
pub record AllLastUpTo (longest : Option ℕ) (zone : ZoneBounds) : Type 0 where
  pub each : (a b n : ℕ) → 0 < n → a ≤ b → ZoneHolds zone a b n → LastsUpTo longest (b - a) n
