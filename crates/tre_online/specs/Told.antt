-- Zones that were told before.
use Rattle.std.specs.Prelude.{Any, Bool, List, MatchBool}
use Rattle.tre_zone.specs.Zone.{Includes}
use Rattle.tre_zone.specs.declared.zone_bounds.ZoneBounds.{ZoneBounds}

-- Some zone of those that were told earlier includes the zone.
pub record WasTold (earlier : List ZoneBounds) (zone : ZoneBounds) : Type 0 where
  pub included : Any (λ other. Includes other zone) earlier

-- Whether the zone is new: no zone of those that were told earlier includes it.
pub record IsNew (earlier : List ZoneBounds) (zone : ZoneBounds) (new : Bool) : Type 0 where
  pub told : MatchBool new (WasTold earlier zone → ⊥) (WasTold earlier zone)
