-- Cuts of sets: each leaves some pairs.
use Rattle.std.specs.Prelude.{ℕ, ◌-◌, ◌<◌, ◌≤◌, List, Option, MatchOption}
use Rattle.tre_pairs.specs.Pairs.{Pairs, Both}
use Rattle.tre_pairs.specs.declared.TheConstants.{TIME_MAX}
use Rattle.tre_zone.specs.Interval.{LastsWithin}
use Rattle.tre_zone.specs.Longest.{LastsUpTo, IsLongest}
use Rattle.tre_zone.specs.Zone.{EndsAt}
use Rattle.tre_zone.specs.ZoneList.{SetHolds, HoldExactly}
use Rattle.tre_zone.specs.declared.zone_bounds.ZoneBounds.{ZoneBounds}
use Rattle.tre_zoneset.specs.declared.cut.Cut.{Cut}
use Rattle.tre_zoneset.specs.declared.cut.Cut.TheVariants.{Within, UpTo, EndingAt}

-- The cut leaves the pair.
unfoldable pub Leaves : Cut → Pairs
Leaves (Within interval) a b n = LastsWithin interval (b - a) n
Leaves (UpTo longest) a b n = LastsUpTo longest (b - a) n
Leaves (EndingAt time) a b n = EndsAt time a b n

-- The time that the cut names can be named.
unfoldable pub IsCut : Cut → Type 0
IsCut (Within interval) = Unit {0}
IsCut (UpTo longest) = IsLongest longest
IsCut (EndingAt time) = time ≤ TIME_MAX

-- The cut leaves all of the pairs.
pub record LeavesAll (cut : Cut) (P : Pairs) : Type 0 where
  pub each : (a b n : ℕ) → 0 < n → a ≤ b → P a b n → Leaves cut a b n

-- The set of what the cut leaves of the zones was found, or none, since it leaves all.
abbrev pub IsCutSet : Option (List ZoneBounds) → Cut → List ZoneBounds → Type 0
IsCutSet found cut zones =
    MatchOption found (LeavesAll cut (SetHolds zones))
    (λ set. HoldExactly set (Both (SetHolds zones) (Leaves cut)))
