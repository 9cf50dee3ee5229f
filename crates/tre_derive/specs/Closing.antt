-- What a residual stands for where the trace has ended.
use Rattle.std.specs.Prelude.{◌≡◌, ℕ, Option, List, [], Bool, true, false}
use Rattle.tre_zone.specs.ZoneList.{SetHolds, HoldExactly}
use Rattle.tre_zone.specs.declared.zone_bounds.ZoneBounds.{ZoneBounds}
use Rattle.tre_trace.specs.Trace.{timeline_of}
use Rattle.tre_syntax.specs.AtTheEnd.{MatchesAtEnd}
use Rattle.tre_syntax.specs.PatternTree.{PatternTree}
use Rattle.tre_syntax.specs.Rest.{Rest, rest_of}
use Rattle.tre_residual.specs.Residual.{ResidualTree, Means, IsComposition}

-- The end of a trace at the time, where these events happen: no segment comes.
abbrev pub end_at : ℕ → ℕ → Option ℕ → Rest
end_at time events before = rest_of time before (timeline_of [] events)

-- What is told are the pairs of the residual where the trace has ended at the time and these events
-- happen there, whatever held before.
pub record ClosesTo (residual : ResidualTree) (time events : ℕ) (told : List ZoneBounds) : Type 0
  where
    pub tells : (before : Option ℕ) → HoldExactly told (Means residual (end_at time events before))

-- The pairs of the set, where the expression matches the end of the trace, and else none.
pub record HeldAtEnd (zones : List ZoneBounds) (events : ℕ) (tree : PatternTree) (a b n : ℕ)
    : Type 0 where
  pub held : SetHolds zones a b n
  pub at_end : MatchesAtEnd events tree

-- What the set does behind the pairs that led to it: where all moments did, that is the set.
pub record LedTo (whole : Bool) (outer inner led : List ZoneBounds) : Type 0 where
  pub all : whole ≡ true → led ≡ inner
  pub some : whole ≡ false → IsComposition led outer inner
