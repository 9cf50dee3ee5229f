-- The line of a zone, and the text of a whole match.
use Rattle.std.specs.Prelude.{◌≡◌, ℕ, ◌-◌, ◌<◌, ◌≤◌, ◌↔◌, List, ◌++◌, codes, flat_map}
use Rattle.tre_decimal.specs.Decimal.{number_text}
use Rattle.tre_zone.specs.Interval.{IntervalEnds, LastsWithin}
use Rattle.tre_zone.specs.Ranges.{begin_range, end_range, duration_range}
use Rattle.tre_zone.specs.Zone.{ZoneHolds}
use Rattle.tre_zone.specs.declared.zone_bounds.ZoneBounds.{ZoneBounds}
use Rattle.tre_show.specs.Interval.{interval_text}

abbrev pub line_text : ℕ → IntervalEnds → IntervalEnds → IntervalEnds → List ℕ
line_text scale begin end duration =
    interval_text scale begin ++ codes " " ++ interval_text scale end ++ codes " "
    ++ interval_text scale duration ++ codes "\n"

abbrev pub line_of : ℕ → ZoneBounds → List ℕ
line_of scale zone = line_text scale (begin_range zone) (end_range zone) (duration_range zone)

-- The begin of the pair a/n and b/n, its end and its duration lie within the three intervals, and
-- the begin is not after the end.
pub record LieWithin (begin end duration : IntervalEnds) (a b n : ℕ) : Type 0 where
  pub rising : a ≤ b
  pub begins : LastsWithin begin a n
  pub ends : LastsWithin end b n
  pub lasts : LastsWithin duration (b - a) n

-- The line is the text of three intervals at the scale, and the zone holds a pair, in any order
-- and at any denominator, exactly where its begin, its end and its duration lie within the three.
pub record TellsZone (scale : ℕ) (line : List ℕ) (zone : ZoneBounds) : Type 0 where
  pub begin : IntervalEnds
  pub end : IntervalEnds
  pub duration : IntervalEnds
  pub text : line ≡ line_text scale begin end duration
  pub exact : (a b n : ℕ) → 0 < n → ZoneHolds zone a b n ↔ LieWithin begin end duration a b n

unfoldable pub lines_of : ℕ → List ZoneBounds → List ℕ
lines_of scale zones = flat_map (line_of scale) zones

-- The text of the zones of a trace that ends at `end`: the lines, and then the end.
unfoldable pub offline_text : ℕ → List ZoneBounds → ℕ → List ℕ
offline_text scale zones end =
    lines_of scale zones ++ codes "end " ++ number_text scale end ++ codes "\n"
