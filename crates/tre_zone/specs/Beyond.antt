-- The loosest bounds of two zones, and what lies beyond one of the bounds of the one.
use Rattle.std.specs.Prelude.{ℕ, ◌<◌, ◌≤◌, ℤ}
use Rattle.std.specs.Int.{int_min, int_max}
use Rattle.tre_pairs.specs.Pairs.{Pairs}
use Rattle.tre_zone.specs.Bound.{Meets}
use Rattle.tre_zone.specs.Zone.{ZoneHolds}
use Rattle.tre_zone.specs.declared.united.Side.{Side}
use Rattle.tre_zone.specs.declared.united.Side.TheVariants.{BeginLow, BeginHigh, EndLow, EndHigh, DurLow, DurHigh}
use Rattle.tre_zone.specs.declared.zone_bounds.ZoneBounds.{ZoneBounds}

-- The looser bound of each two.
unfoldable pub looser_of : ZoneBounds → ZoneBounds → ZoneBounds
looser_of one other = record {
  begin_low = int_max one.begin_low other.begin_low;
  begin_high = int_max one.begin_high other.begin_high;
  end_low = int_max one.end_low other.end_low;
  end_high = int_max one.end_high other.end_high;
  dur_low = int_max one.dur_low other.dur_low;
  dur_high = int_max one.dur_high other.dur_high;
}

-- The key of the bound.
abbrev pub key_at : Side → ZoneBounds → ℤ
key_at BeginLow zone = zone.begin_low
key_at BeginHigh zone = zone.begin_high
key_at EndLow zone = zone.end_low
key_at EndHigh zone = zone.end_high
key_at DurLow zone = zone.dur_low
key_at DurHigh zone = zone.dur_high

-- The pairs that meet a bound there.
abbrev pub MeetsAt : Side → ℤ → Pairs
MeetsAt BeginLow key a b n = Meets key 0 a n
MeetsAt BeginHigh key a b n = Meets key a 0 n
MeetsAt EndLow key a b n = Meets key 0 b n
MeetsAt EndHigh key a b n = Meets key b 0 n
MeetsAt DurLow key a b n = Meets key a b n
MeetsAt DurHigh key a b n = Meets key b a n

-- The bounds, and one more on the other side of what the bound is on.
abbrev pub cut_at : Side → ZoneBounds → ℤ → ZoneBounds
cut_at BeginLow zone key = record zone { begin_high = int_min zone.begin_high key }
cut_at BeginHigh zone key = record zone { begin_low = int_min zone.begin_low key }
cut_at EndLow zone key = record zone { end_high = int_min zone.end_high key }
cut_at EndHigh zone key = record zone { end_low = int_min zone.end_low key }
cut_at DurLow zone key = record zone { dur_high = int_min zone.dur_high key }
cut_at DurHigh zone key = record zone { dur_low = int_min zone.dur_low key }

-- What lies in the whole beyond the bound of the one is in the other.
pub record IsHeldBeyond (side : Side) (whole one other : ZoneBounds) : Type 0 where
  pub every : (a b n : ℕ) → 0 < n → a ≤ b → ZoneHolds whole a b n
      → (MeetsAt side (key_at side one) a b n → ⊥) → ZoneHolds other a b n

-- The same of each of the six bounds.
pub record AreHeldBeyond (whole one other : ZoneBounds) : Type 0 where
  pub begin_low : IsHeldBeyond BeginLow whole one other
  pub begin_high : IsHeldBeyond BeginHigh whole one other
  pub end_low : IsHeldBeyond EndLow whole one other
  pub end_high : IsHeldBeyond EndHigh whole one other
  pub dur_low : IsHeldBeyond DurLow whole one other
  pub dur_high : IsHeldBeyond DurHigh whole one other
