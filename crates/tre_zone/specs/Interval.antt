-- Intervals of durations.
use Rattle.std.specs.Prelude.{◌≡◌, ℕ, ◌≤◌, ◌<◌, ◌*◌, Bool, false, Option, Some, None, MatchOption, MatchBool}
use Rattle.tre_pairs.specs.declared.TheConstants.{TIME_MAX}

-- What an interval is: its ends in ticks, and whether each end belongs to it. Without `high` it has
-- no upper end.
pub record IntervalEnds : Type 0 where
  pub low : ℕ
  pub low_weak : Bool
  pub high : Option ℕ
  pub high_weak : Bool

abbrev pub ends_of : ℕ → Bool → Option ℕ → Bool → IntervalEnds
ends_of low low_weak high high_weak = record {
  low = low;
  low_weak = low_weak;
  high = high;
  high_weak = high_weak;
}

-- The duration d/n is above the low end, or is it where that belongs to the interval.
abbrev pub IsAboveLow : IntervalEnds → ℕ → ℕ → Type 0
IsAboveLow ends d n = MatchBool ends.low_weak (ends.low * n ≤ d) (ends.low * n < d)

-- The duration d/n is below the high end, or is it where that belongs to the interval.
abbrev pub IsBelowHigh : IntervalEnds → ℕ → ℕ → Type 0
IsBelowHigh ends d n = MatchOption ends.high (Unit {0})
    (λ high. MatchBool ends.high_weak (d ≤ high * n) (d < high * n))

abbrev pub LastsWithin : IntervalEnds → ℕ → ℕ → Type 0
LastsWithin ends d n = IsAboveLow ends d n × IsBelowHigh ends d n

abbrev pub HasNoDuration : IntervalEnds → Type 0
HasNoDuration ends = (d n : ℕ) → 0 < n → LastsWithin ends d n → ⊥

-- Whether the high end belongs to the interval: never where there is none.
abbrev pub kept_weak : Option ℕ → Bool → Bool
kept_weak None weak = false
kept_weak (Some high) weak = weak

-- Each end is a time that can be named.
pub record IsIntervalWithin (limit : ℕ) (ends : IntervalEnds) : Type 0 where
  pub low : ends.low ≤ limit
  pub high : MatchOption ends.high (Unit {0}) (λ high. high ≤ limit)

-- What is so of every interval: its ends can be named, an upper end that isn't there is not in it,
-- and some duration is.
pub record IsInterval (ends : IntervalEnds) : Type 0 where
  pub within : IsIntervalWithin TIME_MAX ends
  pub kept : kept_weak ends.high ends.high_weak ≡ ends.high_weak
  pub some : HasNoDuration ends → ⊥

-- Some duration lies between the two ends.
abbrev pub HasRoom : ℕ → Bool → ℕ → Bool → Type 0
HasRoom low low_weak high high_weak = MatchBool low_weak
    (MatchBool high_weak (low ≤ high) (low < high)) (low < high)
