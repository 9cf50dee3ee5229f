-- Zones that end or begin at one moment.
use Rattle.std.specs.Prelude.{◌≡◌, ℕ, ◌+◌, ◌*◌, pos, ◌+ℤ◌, ◌-ℤ◌, ◌≤ℤ◌}
use Rattle.std.specs.Int.{int_min}
use Rattle.tre_zone.specs.Bound.{sum_of}
use Rattle.tre_zone.specs.declared.zone_bounds.ZoneBounds.{ZoneBounds}

-- No pair of the first lasts any time, and its moments are all at which the second begins.
pub record AreMomentsBefore (first second : ZoneBounds) : Type 0 where
  pub instant : first.dur_high ≤ℤ pos 1
  pub low : second.begin_low ≤ℤ first.begin_low
  pub high : second.begin_high ≤ℤ first.begin_high

-- The first ends at one moment, and the second begins then.
pub record MeetAtMoment (first second : ZoneBounds) : Type 0 where
  pub low : first.end_low ≡ second.begin_low
  pub high : first.end_high ≡ second.begin_high
  pub moment : sum_of first.end_low first.end_high ≡ pos 1

-- The bounds of both, one after the other.
unfoldable pub followed_at : ZoneBounds → ZoneBounds → ZoneBounds
followed_at first second = record {
  begin_low = first.begin_low;
  begin_high = first.begin_high;
  end_low = second.end_low;
  end_high = second.end_high;
  dur_low = sum_of first.dur_low second.dur_low;
  dur_high = sum_of second.dur_high first.dur_high;
}

-- The bounds with the end at the time, by which all have ended.
unfoldable pub ending_with : ZoneBounds → ℕ → ZoneBounds
ending_with zone time =
    let low = pos 1 -ℤ pos (2 * time) in
    let high = pos (2 * time + 1) in
    let begin_low = int_min zone.begin_low (sum_of low zone.dur_high) in
    record {
      begin_low = begin_low;
      begin_high = zone.begin_high;
      end_low = low;
      end_high = high;
      dur_low = sum_of zone.begin_high low;
      dur_high = sum_of high begin_low;
    }

-- Both end at one moment.
pub record EndTogether (one other : ZoneBounds) : Type 0 where
  pub low : one.end_low ≡ other.end_low
  pub high : one.end_high ≡ other.end_high
  pub moment : sum_of one.end_low one.end_high ≡ pos 1

-- And there is no gap between their begins.
pub record LeaveNoGap (one other : ZoneBounds) : Type 0 where
  pub ends : EndTogether one other
  pub first : pos 1 ≤ℤ (one.begin_high +ℤ other.begin_low)
  pub last : pos 1 ≤ℤ (other.begin_high +ℤ one.begin_low)
