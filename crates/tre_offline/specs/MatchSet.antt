-- The zones of all matches.
use Rattle.std.specs.Prelude.{ℕ, ◌<◌, ◌≤◌, ◌↔◌, List}
use Rattle.tre_syntax.specs.Begun.{HasBegun}
use Rattle.tre_syntax.specs.Meaning.{Matches}
use Rattle.tre_syntax.specs.PatternTree.{PatternTree}
use Rattle.tre_trace.specs.Trace.{Timeline}
use Rattle.tre_zone.specs.ZoneList.{SetHolds, IsApart, AreTight, HoldExactly}
use Rattle.tre_zone.specs.declared.zone_bounds.ZoneBounds.{ZoneBounds}

-- None of the zones is included in another, each holds some pair and has the tightest bounds that
-- its pairs allow, and they hold a pair of times, the first not after the second, at every
-- denominator, exactly where that stretch of the trace is in the meaning of the expression.
pub record IsMatchSet (zones : List ZoneBounds) (tree : PatternTree) (trace : Timeline) : Type 0
  where
    pub apart : IsApart zones
    pub tight : AreTight zones
    pub exact : HoldExactly zones (Matches tree trace)

-- Of the pairs of the set, the zones hold those that are in the meaning of the expression, and no
-- other. Of other pairs they say nothing.
pub record AreMatchesAmong (zones : List ZoneBounds) (tree : PatternTree) (trace : Timeline)
    (set : List ZoneBounds) : Type 0 where
  pub exact : (a b n : ℕ) → 0 < n → a ≤ b → SetHolds set a b n
      → SetHolds zones a b n ↔ Matches tree trace a b n

-- Of the pairs of the set, the zones hold those that have begun of the expression, and no other. Of
-- other pairs they say nothing.
pub record HaveBegunAmong (zones : List ZoneBounds) (tree : PatternTree) (trace : Timeline)
    (set : List ZoneBounds) : Type 0 where
  pub exact : (a b n : ℕ) → 0 < n → a ≤ b → SetHolds set a b n
      → SetHolds zones a b n ↔ HasBegun tree trace a b n
