-- The six bounds of a zone one by one, and the bounds of the pairs that miss or meet one of them.
use Rattle.std.specs.Prelude.{ℕ, ◌==◌, cond, ℤ, pos, ◌-ℤ◌}
use Rattle.std.specs.Int.{int_min}
use Rattle.tre_pairs.specs.Pairs.{Pairs}
use Rattle.tre_zone.specs.Bound.{Meets}
use Rattle.tre_zone.specs.declared.zone_bounds.ZoneBounds.{ZoneBounds}
use Rattle.tre_minus.specs.declared.side.Side.{Side}
use Rattle.tre_minus.specs.declared.side.Side.TheVariants.{BeginLow, BeginHigh, EndLow, EndHigh, DurationLow, DurationHigh}

-- the bound of the zone on a side
abbrev pub bound_at : Side → ZoneBounds → ℤ
bound_at BeginLow zone = zone.begin_low
bound_at BeginHigh zone = zone.begin_high
bound_at EndLow zone = zone.end_low
bound_at EndHigh zone = zone.end_high
bound_at DurationLow zone = zone.dur_low
bound_at DurationHigh zone = zone.dur_high

-- The pair of the times a/n and b/n meets a bound with this key on the side.
abbrev pub MeetsKeyAt : Side → ℤ → Pairs
MeetsKeyAt BeginLow key a b n = Meets key 0 a n
MeetsKeyAt BeginHigh key a b n = Meets key a 0 n
MeetsKeyAt EndLow key a b n = Meets key 0 b n
MeetsKeyAt EndHigh key a b n = Meets key b 0 n
MeetsKeyAt DurationLow key a b n = Meets key a b n
MeetsKeyAt DurationHigh key a b n = Meets key b a n

-- It meets the bound of the zone.
abbrev pub MeetsSide : Side → ZoneBounds → Pairs
MeetsSide side zone = MeetsKeyAt side (bound_at side zone)

abbrev pub opposite : Side → Side
opposite BeginLow = BeginHigh
opposite BeginHigh = BeginLow
opposite EndLow = EndHigh
opposite EndHigh = EndLow
opposite DurationLow = DurationHigh
opposite DurationHigh = DurationLow

abbrev pub number_of_side : Side → ℕ
number_of_side BeginLow = 0
number_of_side BeginHigh = 1
number_of_side EndLow = 2
number_of_side EndHigh = 3
number_of_side DurationLow = 4
number_of_side DurationHigh = 5

-- a zone by its bound on each side
abbrev pub zone_by : (Side → ℤ) → ZoneBounds
zone_by bound = record {
  begin_low = bound BeginLow;
  begin_high = bound BeginHigh;
  end_low = bound EndLow;
  end_high = bound EndHigh;
  dur_low = bound DurationLow;
  dur_high = bound DurationHigh;
}

-- the bounds, of which the one on this side is no looser than the key
abbrev pub tighter_at : Side → ℤ → ZoneBounds → ZoneBounds
tighter_at side key bounds = zone_by (λ other.
    cond (number_of_side side == number_of_side other) (int_min (bound_at other bounds) key)
    (bound_at other bounds))

-- The bounds, and that of the taken zone on this side is missed: the bound with the key k is missed
-- exactly where the one from the other side with the key 1 - k is met.
unfoldable pub missing_of : Side → ZoneBounds → ZoneBounds → ZoneBounds
missing_of side bounds taken = tighter_at (opposite side) (pos 1 -ℤ bound_at side taken) bounds

-- The bounds, and that of the taken zone on this side is met.
unfoldable pub meeting_of : Side → ZoneBounds → ZoneBounds → ZoneBounds
meeting_of side bounds taken = tighter_at side (bound_at side taken) bounds
