-- A set that holds what no zone holds has no zone.
use Rattle.std.proofs.Common.{◌≡◌, List, [], ◌∷◌, refl, rules}
use Rattle.tre_zone.specs.ZoneList.{SetHolds, AreTight, HoldExactly}
use Rattle.tre_zone.specs.declared.zone_bounds.ZoneBounds.{ZoneBounds}

pub empty_set : (none zones : List ZoneBounds) → none ≡ [] → AreTight zones
    → HoldExactly zones (SetHolds none) → zones ≡ []
unfolding AreTight SetHolds
empty_set none [] is tight same = refl
empty_set none (zone ∷ zones) is tight same = search rules
