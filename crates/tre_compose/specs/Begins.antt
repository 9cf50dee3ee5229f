-- The begins of pairs.
use Rattle.std.specs.Prelude.{◌≡◌, ℕ, pos}
use Rattle.tre_pairs.specs.Leads.{Leads}
use Rattle.tre_pairs.specs.Pairs.{Pairs}
use Rattle.tre_zone.specs.declared.zone_bounds.ZoneBounds.{ZoneBounds}

-- An instant at which R leads on.
pub record BeginsOf (R : Pairs) (a b n : ℕ) : Type 0 where
  pub same : a ≡ b
  pub leads : Leads R a n

-- The bounds of the instants at which pairs of the zone begin.
unfoldable pub begins_of : ZoneBounds → ZoneBounds
begins_of zone = record {
  begin_low = zone.begin_low;
  begin_high = zone.begin_high;
  end_low = zone.begin_low;
  end_high = zone.begin_high;
  dur_low = pos 1;
  dur_high = pos 1;
}
