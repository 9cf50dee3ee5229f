-- Intervals: which of them can be kept.
use Rattle.std.specs.Prelude.{◌≡◌, Option, IsSome, IfSome}
use Rattle.tre_zone.specs.Interval.{IntervalEnds, HasNoDuration, IsIntervalWithin}
use Rattle.tre_pairs.specs.declared.TheConstants.{TIME_MAX}

-- Some duration is in the interval, and its ends are no later than the latest time.
pub record IsFineInterval (ends : IntervalEnds) : Type 0 where
  pub lasts : ¬ HasNoDuration ends
  pub within : IsIntervalWithin TIME_MAX ends

-- What the program makes of the ends of an interval: the interval, and none exactly where it is not
-- fine.
pub record IsMadeOf (interval : Option IntervalEnds) (ends : IntervalEnds) : Type 0 where
  pub same : IfSome interval (λ i. i ≡ ends)
  pub made : IsFineInterval ends → IsSome interval
  pub fine : IsSome interval → IsFineInterval ends
