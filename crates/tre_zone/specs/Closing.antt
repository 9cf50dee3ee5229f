-- The closure of six bounds, one step after another.
use Rattle.std.specs.Prelude.{◌+◌, ◌*◌, pos}
use Rattle.std.specs.Int.{int_min}
use Rattle.tre_pairs.specs.declared.TheConstants.{TIME_MAX}
use Rattle.tre_zone.specs.Bound.{sum_of}
use Rattle.tre_zone.specs.declared.zone_bounds.ZoneBounds.{ZoneBounds}

-- The bounds together with those of the frame.
unfoldable pub framed_of : ZoneBounds → ZoneBounds
framed_of zone = record {
  begin_low = int_min zone.begin_low (pos 1);
  begin_high = zone.begin_high;
  end_low = zone.end_low;
  end_high = int_min zone.end_high (pos (2 * TIME_MAX + 1));
  dur_low = int_min zone.dur_low (pos 1);
  dur_high = zone.dur_high;
}

-- Each bound, or the way round through the third time where that is tighter.
unfoldable pub closed_of : ZoneBounds → ZoneBounds
closed_of zone = record {
  begin_low = int_min zone.begin_low (sum_of zone.end_low zone.dur_high);
  begin_high = int_min zone.begin_high (sum_of zone.dur_low zone.end_high);
  end_low = int_min zone.end_low (sum_of zone.begin_low zone.dur_low);
  end_high = int_min zone.end_high (sum_of zone.dur_high zone.begin_high);
  dur_low = int_min zone.dur_low (sum_of zone.begin_high zone.end_low);
  dur_high = int_min zone.dur_high (sum_of zone.end_high zone.begin_low);
}

-- The tighter bound of each two.
unfoldable pub tighter_of : ZoneBounds → ZoneBounds → ZoneBounds
tighter_of one other = record {
  begin_low = int_min one.begin_low other.begin_low;
  begin_high = int_min one.begin_high other.begin_high;
  end_low = int_min one.end_low other.end_low;
  end_high = int_min one.end_high other.end_high;
  dur_low = int_min one.dur_low other.dur_low;
  dur_high = int_min one.dur_high other.dur_high;
}
