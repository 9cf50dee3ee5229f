-- The three ranges that the six bounds of a zone spell: of the begin, the end and the duration.
use Rattle.std.specs.Prelude.{ℕ, ◌-◌, ◌≤◌, ◌==◌, Some, ℤ, nat_abs}
use Rattle.tre_zone.specs.Bound.{value_of, weakness_of}
use Rattle.tre_zone.specs.Interval.{IntervalEnds, LastsWithin}
use Rattle.tre_zone.specs.declared.zone_bounds.ZoneBounds.{ZoneBounds}

-- The interval between two bounds. The low one bounds the negated number from above, so its value
-- is the low end, negated. Each end is in the interval where its bound is weak.
abbrev pub range_of : ℤ → ℤ → IntervalEnds
range_of low high = record {
  low = nat_abs (value_of low);
  low_weak = weakness_of low == 1;
  high = Some (nat_abs (value_of high));
  high_weak = weakness_of high == 1;
}

abbrev pub begin_range : ZoneBounds → IntervalEnds
begin_range zone = range_of zone.begin_low zone.begin_high

abbrev pub end_range : ZoneBounds → IntervalEnds
end_range zone = range_of zone.end_low zone.end_high

abbrev pub duration_range : ZoneBounds → IntervalEnds
duration_range zone = range_of zone.dur_low zone.dur_high

-- The begin a/n, the end b/n and the duration (b - a)/n each last within the range of theirs, and
-- the begin is not after the end.
pub record IsInRanges (zone : ZoneBounds) (a b n : ℕ) : Type 0 where
  pub rising : a ≤ b
  pub begin : LastsWithin (begin_range zone) a n
  pub end : LastsWithin (end_range zone) b n
  pub duration : LastsWithin (duration_range zone) (b - a) n
