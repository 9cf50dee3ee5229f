-- How long the pairs of a set last.
use Rattle.std.specs.Prelude.{ℕ, ◌≡◌, ◌-◌, ◌<◌, ◌≤◌, ◌↔◌, Option, List}
use Rattle.tre_syntax.specs.Meaning.{MatchesRest}
use Rattle.tre_syntax.specs.PatternTree.{PatternTree, sequence, repetition}
use Rattle.tre_syntax.specs.Rest.{Rest}
use Rattle.tre_zone.specs.Longest.{LastsUpTo}
use Rattle.tre_zone.specs.ZoneList.{SetHolds}
use Rattle.tre_zone.specs.declared.zone_bounds.ZoneBounds.{ZoneBounds}

-- Every pair that the zones hold lasts up to the longest duration.
pub record LastUpTo (longest : Option ℕ) (zones : List ZoneBounds) : Type 0 where
  pub each : (a b n : ℕ) → 0 < n → a ≤ b → SetHolds zones a b n → LastsUpTo longest (b - a) n

-- The expression is a repetition of another.
pub record IsRepetition (tree : PatternTree) : Type 0 where
  pub step : PatternTree
  pub whole : tree ≡ repetition step

-- The expression is another one or more times.
pub record IsIteration (tree : PatternTree) : Type 0 where
  pub step : PatternTree
  pub whole : tree ≡ sequence step (repetition step)

-- The begin of a match and the end of another one behind it are those of a match.
pub record Spans (tree : PatternTree) : Type 0 where
  pub each : (rest : Rest) (a b c d n : ℕ) → b ≤ c → MatchesRest tree rest a b n
      → MatchesRest tree rest c d n → MatchesRest tree rest a d n

-- One match or more, one after another, are a match.
pub record IsOwnIteration (tree : PatternTree) : Type 0 where
  pub same : (rest : Rest) (a b n : ℕ)
      → MatchesRest (sequence tree (repetition tree)) rest a b n ↔ MatchesRest tree rest a b n
