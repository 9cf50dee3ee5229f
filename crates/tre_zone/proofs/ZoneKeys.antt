-- Zones are equal where their six keys are.
use Rattle.std.proofs.Common.{◌≡◌, ℤ, rules}
use Rattle.tre_zone.specs.declared.zone_bounds.ZoneBounds.{ZoneBounds}

abbrev zone_of : ℤ → ℤ → ℤ → ℤ → ℤ → ℤ → ZoneBounds
zone_of a b c d e f = record {
  begin_low = a;
  begin_high = b;
  end_low = c;
  end_high = d;
  dur_low =
      e;
  dur_high = f;
}

pub zones_same : (one other : ZoneBounds) → one.begin_low ≡ other.begin_low
    → one.begin_high ≡ other.begin_high
    → one.end_low ≡ other.end_low → one.end_high ≡ other.end_high → one.dur_low ≡ other.dur_low
    → one.dur_high ≡ other.dur_high → one ≡ other
zones_same one other a b c d e f = search rules
