-- Sets of zones, each seen as the list of its zones.
use Rattle.std.specs.Prelude.{◌≡◌, ◌⊎◌, Any, Bool, MatchBool, List, [], ◌∷◌, ◌++◌, Option, Some, None}
use Rattle.tre_pairs.specs.Pairs.{Pairs}
use Rattle.tre_zone.specs.Zone.{ZoneHolds, Includes, IsCanonical}
use Rattle.tre_zone.specs.ZoneList.{SetHolds, IsApart, AreCanonical, HoldExactly}
use Rattle.tre_zone.specs.declared.zone_bounds.ZoneBounds.{ZoneBounds}

-- The list of a set: no zone is included in another, and each has canonical bounds.
pub record IsZoneSet (zones : List ZoneBounds) : Type 0 where
  pub apart : IsApart zones
  pub canonical : AreCanonical zones

-- The kept list is the old one without the zones of which P holds: each of the others stays, in
-- order.
unfoldable pub Without : (ZoneBounds → Type 0) → List ZoneBounds → List ZoneBounds → Type 0
Without P [] kept = kept ≡ []
Without P (zone ∷ zones) kept =
    (P zone × Without P zones kept) ⊎ ((P zone → ⊥)
    × ((rest : List ZoneBounds) × (kept ≡ zone ∷ rest) × Without P zones rest))

-- Whether a member stays where a zone is added: exactly where the zone doesn't include it.
pub record Stays (stays : Bool) (zone member : ZoneBounds) : Type 0 where
  pub told : MatchBool stays (Includes zone member → ⊥) (Includes zone member)

-- The zone was added: the members that it includes are gone, and it stands at the end.
pub record IsAdded (old : List ZoneBounds) (zone : ZoneBounds) (new : List ZoneBounds)
    : Type 0 where
  pub kept : List ZoneBounds
  pub without : Without (Includes zone) old kept
  pub last : new ≡ kept ++ zone ∷ []

-- The pairs of the zone that was found, and none where there is none.
unfoldable pub FoundHolds : Option ZoneBounds → Pairs
FoundHolds None a b n = ⊥
FoundHolds (Some zone) a b n = ZoneHolds zone a b n

-- No zone of the list includes one that stands later.
unfoldable pub IncludesNoLater : List ZoneBounds → Type 0
IncludesNoLater [] = Unit {0}
IncludesNoLater (zone ∷ zones) =
    (Any (λ later. Includes zone later) zones → ⊥) × IncludesNoLater zones

-- No zone of the list includes one that stands earlier.
unfoldable pub IncludesNoEarlier : List ZoneBounds → Type 0
IncludesNoEarlier [] = Unit {0}
IncludesNoEarlier (zone ∷ zones) =
    (Any (λ later. Includes later zone) zones → ⊥) × IncludesNoEarlier zones

-- Of the zones those were kept that no kept one before them includes.
pub record IsThinned (zones kept : List ZoneBounds) : Type 0 where
  pub canonical : AreCanonical kept
  pub held : HoldExactly kept (SetHolds zones)
  pub later : IncludesNoLater kept
  pub earlier : IncludesNoEarlier zones → IncludesNoEarlier kept
  pub among : (zone : ZoneBounds) → (Any (λ other. Includes zone other) zones → ⊥)
      → Any (λ other. Includes zone other) kept → ⊥

-- The zone was kept too, at the end, unless a kept one includes it.
pub record IsKept (old : List ZoneBounds) (zone : ZoneBounds) (new : List ZoneBounds)
    : Type 0 where
  pub how : (Any (λ member. Includes member zone) old × (new ≡ old))
      ⊎ ((Any (λ member. Includes member zone) old → ⊥)
      × (IsCanonical zone × (new ≡ old ++ zone ∷ [])))
