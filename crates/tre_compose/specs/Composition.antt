-- The composition of zones: what it means, and the bounds that it is worked out by.
use Rattle.std.specs.Prelude.{ℕ, ◌*◌, pos, ◌≤ℤ◌}
use Rattle.std.specs.Int.{int_min}
use Rattle.tre_zone.specs.Bound.{sum_of}
use Rattle.tre_zone.specs.Zone.{ZoneHolds}
use Rattle.tre_zone.specs.declared.zone_bounds.ZoneBounds.{ZoneBounds}

-- Some moment at twice the denominator ends a pair of the first zone from a/n, and begins one of
-- the second to b/n.
pub record HasHalfway (first second : ZoneBounds) (a b n : ℕ) : Type 0 where
  pub midpoint : ℕ
  pub left : ZoneHolds first (2 * a) midpoint (2 * n)
  pub right : ZoneHolds second midpoint (2 * b) (2 * n)

-- The times at which pairs of the first zone end and those at which pairs of the second begin
-- overlap.
pub record Touch (first second : ZoneBounds) : Type 0 where
  pub not_late : pos 1 ≤ℤ sum_of first.end_low second.begin_high
  pub not_early : pos 1 ≤ℤ sum_of second.begin_low first.end_high

-- The six bounds by way of the moment in the middle, with durations that are added up.
unfoldable pub joined_of : ZoneBounds → ZoneBounds → ZoneBounds
joined_of first second = record {
  begin_low = int_min first.begin_low (sum_of second.begin_low first.dur_high);
  begin_high = int_min first.begin_high (sum_of first.dur_low second.begin_high);
  end_low = int_min second.end_low (sum_of first.end_low second.dur_low);
  end_high = int_min second.end_high (sum_of second.dur_high first.end_high);
  dur_low = sum_of first.dur_low second.dur_low;
  dur_high = sum_of second.dur_high first.dur_high;
}

-- The same, with durations no looser than the way by the time 0.
unfoldable pub composed_of : ZoneBounds → ZoneBounds → ZoneBounds
composed_of first second =
    let joined = joined_of first second in
    record joined {
      dur_low = int_min joined.dur_low (sum_of joined.begin_high joined.end_low);
      dur_high = int_min joined.dur_high (sum_of joined.end_high joined.begin_low);
    }
