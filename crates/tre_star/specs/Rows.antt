-- How many rows of six keys a list of zones does not reach: the number that falls with each zone
-- that the closure adds.
use Rattle.std.specs.Prelude.{ℕ, zero, suc, ◌+◌, ◌-◌, ◌*◌, ℤ, pos, negsuc, Bool, false, ◌&&◌, ◌||◌, nat_le, if◌then◌else◌, List, [], ◌∷◌}
use Rattle.tre_zone.specs.declared.zone_bounds.ZoneBounds.{ZoneBounds}

-- The place of a key among the keys from -side on.
unfoldable pub place_of : ℕ → ℤ → ℕ
place_of side (pos key) = side + key
place_of side (negsuc key) = side - (key + 1)

-- A row of six keys, each by its place.
pub record Row : Type 0 where
  pub begin_low : ℕ
  pub begin_high : ℕ
  pub end_low : ℕ
  pub end_high : ℕ
  pub dur_low : ℕ
  pub dur_high : ℕ

-- Each key of the zone is at least that of the row.
unfoldable pub is_reached_by : ℕ → ZoneBounds → Row → Bool
is_reached_by side zone row =
    nat_le row.begin_low (place_of side zone.begin_low)
    && nat_le row.begin_high (place_of side zone.begin_high)
    && nat_le row.end_low (place_of side zone.end_low)
    && nat_le row.end_high (place_of side zone.end_high)
    && nat_le row.dur_low (place_of side zone.dur_low)
    && nat_le row.dur_high (place_of side zone.dur_high)

-- Some zone of the list reaches the row.
unfoldable pub is_reached : ℕ → List ZoneBounds → Row → Bool
is_reached side [] row = false
is_reached side (zone ∷ zones) row = is_reached_by side zone row || is_reached side zones row

-- The sum of what f gives for each number below the width.
unfoldable pub sum_below : ℕ → (ℕ → ℕ) → ℕ
sum_below zero f = 0
sum_below (suc width) f = f width + sum_below width f

-- The sum of what f gives for each row with its places below the width.
unfoldable pub sum_of_rows : ℕ → (Row → ℕ) → ℕ
sum_of_rows width f =
    sum_below width (λ a.
    sum_below width (λ b.
    sum_below width (λ c.
    sum_below width (λ d.
    sum_below width (λ e.
    sum_below width (λ g.
    f (record {
      begin_low = a;
      begin_high = b;
      end_low = c;
      end_high = d;
      dur_low = e;
      dur_high =
          g;
    })))))))

-- The number of rows, with keys from -side to side, that no zone of the list reaches.
unfoldable pub missed : ℕ → List ZoneBounds → ℕ
missed side zones = sum_of_rows (2 * side + 1) (λ row. if is_reached side zones row then 0 else 1)
