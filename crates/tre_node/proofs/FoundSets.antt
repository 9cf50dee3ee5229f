-- Sets of one zone at most.
use Rattle.std.proofs.Common.{◌≡◌, ℕ, ◌↔◌, List, [], ◌∷◌, inl, ⊎_elim}
use Rattle.tre_zone.specs.Zone.{ZoneHolds}
use Rattle.tre_zone.specs.ZoneList.{SetHolds}
use Rattle.tre_zone.specs.declared.zone_bounds.ZoneBounds.{ZoneBounds}

pub holds_alone : (zones : List ZoneBounds) (zone : ZoneBounds) → zones ≡ zone ∷ [] → (a b n : ℕ)
    → ZoneHolds zone a b n ↔ SetHolds zones a b n
unfolding SetHolds
holds_alone zones zone is a b n = rw is ((λ h. inl h), (λ h. ⊎_elim (λ x. x) (λ x. absurd x) h))
