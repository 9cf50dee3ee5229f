-- Chains that keep to limits.
use Rattle.std.specs.Prelude.{◌≤◌}
use Rattle.tre_pairs.specs.Pairs.{Pairs, Lasting}
use Rattle.tre_pairs.specs.declared.TheConstants.{TIME_MAX}
use Rattle.tre_zone.specs.Longest.{LastsUpTo, IsLongest}
use Rattle.tre_zone.specs.Zone.{IsInstantBetween}
use Rattle.tre_star.specs.Parts.{SomeSteps}
use Rattle.tre_star.specs.declared.limits.Limits.{Limits}

-- The limits can be named, and the latest end is no earlier than the earliest.
pub record AreLimits (limits : Limits) : Type 0 where
  pub rising : limits.from ≤ limits.to
  pub limit : limits.to ≤ TIME_MAX
  pub longest : IsLongest limits.longest

-- R some number of times, one after another, and at least once: within the limits.
abbrev pub ChainsWithin : Limits → Pairs → Pairs
ChainsWithin limits R =
    Lasting (LastsUpTo limits.longest) (SomeSteps R (IsInstantBetween limits.from limits.to))
