-- Lists of zones: one more zone at the end.
use Rattle.std.proofs.Common.{ℕ, zero, suc, ◌<◌, ◌≤◌, ◌⊎◌, ◌↔◌, List, [], ◌∷◌, ◌++◌, length, get_or, inl, inr, ⊎_elim, arith, rules}
use Rattle.tre_pairs.specs.Pairs.{Pairs}
use Rattle.tre_zone.specs.Zone.{ZoneHolds, IsCanonical}
use Rattle.tre_zone.specs.ZoneList.{SetHolds, AreApart, IsApartFrom, IsApart, AreCanonical, AreTight, HoldExactly}
use Rattle.tre_zone.specs.declared.zone_bounds.ZoneBounds.{ZoneBounds}
use Rattle.tre_zone.proofs.Tightness.{canonical-some, canonical-tight}

pub SetHolds-empty : (a b n : ℕ) → SetHolds [] a b n → ⊥
unfolding SetHolds
SetHolds-empty a b n h = h

-- A list holds what its two parts hold.
pub SetHolds-append : (left right : List ZoneBounds) (a b n : ℕ)
    → SetHolds (left ++ right) a b n ↔ (SetHolds left a b n ⊎ SetHolds right a b n)
unfolding SetHolds
SetHolds-append [] right a b n = ((λ h. inr h), (λ h. ⊎_elim (λ x. absurd x) (λ x. x) h))
SetHolds-append (zone ∷ left) right a b n =
    let rest = SetHolds-append left right a b n in (
      (λ h. ⊎_elim (λ x. inl (inl x)) (λ x. ⊎_elim (λ y. inl (inr y)) (λ y. inr y) (rest.0 x)) h),
      (λ h. ⊎_elim (λ x. ⊎_elim (λ y. inl y) (λ y. inr (rest.1 (inl y))) x)
          (λ x. inr (rest.1 (inr x))) h),
    )

-- A list with one more zone holds the pairs of the list and those of the zone.
pub SetHolds-push : (zones : List ZoneBounds) (zone : ZoneBounds) (a b n : ℕ)
    → SetHolds (zones ++ zone ∷ []) a b n ↔ (SetHolds zones a b n ⊎ ZoneHolds zone a b n)
unfolding SetHolds
SetHolds-push zones zone a b n = search (rules, SetHolds-append)

pub AreApart-swap : (one other : ZoneBounds) → AreApart one other → AreApart other one
AreApart-swap one other apart = record { left = apart.right; right = apart.left }

pub IsApartFrom-push : (zone : ZoneBounds) (zones : List ZoneBounds) (last : ZoneBounds)
    → IsApartFrom zone zones → AreApart zone last
    → IsApartFrom zone (zones ++ last ∷ [])
unfolding IsApartFrom
IsApartFrom-push zone [] last apart new = (new, tt)
IsApartFrom-push zone (other ∷ zones) last apart new =
    (apart.0, IsApartFrom-push zone zones last apart.1 new)

pub IsApart-empty : IsApart []
unfolding IsApart
IsApart-empty = tt

-- A list that is apart stays so with a zone at its end that is apart from each of it.
pub IsApart-push : (zones : List ZoneBounds) (zone : ZoneBounds) → IsApart zones
    → IsApartFrom zone zones → IsApart (zones ++ zone ∷ [])
unfolding IsApart IsApartFrom
IsApart-push [] zone apart new = (tt, tt)
IsApart-push (other ∷ zones) zone apart new = (
  IsApartFrom-push other zones _ apart.0 (AreApart-swap _ other new.0),
  IsApart-push zones _
      apart.1 new.1,
)

pub AreCanonical-empty : AreCanonical []
unfolding AreCanonical
AreCanonical-empty = tt

pub AreCanonical-push : (zones : List ZoneBounds) (zone : ZoneBounds) → AreCanonical zones
    → IsCanonical zone → AreCanonical (zones ++ zone ∷ [])
unfolding AreCanonical
AreCanonical-push [] zone all new = (new, tt)
AreCanonical-push (other ∷ zones) zone all new = (all.0, AreCanonical-push zones _ all.1 new)

-- A zone that is apart from a list is apart from each member.
pub IsApartFrom-at : (zone : ZoneBounds) (zones : List ZoneBounds) (i : ℕ) (d : ZoneBounds)
    → IsApartFrom zone zones → i < length zones → AreApart zone (get_or zones i d)
unfolding IsApartFrom
IsApartFrom-at zone [] i d apart below = absurd (omega (arith, below))
IsApartFrom-at zone (other ∷ zones) zero d apart below = apart.0
IsApartFrom-at zone (other ∷ zones) (suc i) d apart below =
    IsApartFrom-at zone zones i d apart.1 (omega (arith, below))

-- Canonical bounds are the tightest of some pairs.
pub AreCanonical-tight : (zones : List ZoneBounds) → AreCanonical zones → AreTight zones
unfolding AreCanonical AreTight
AreCanonical-tight [] all = tt
AreCanonical-tight (zone ∷ zones) all =
    ((canonical-some zone all.0, canonical-tight zone all.0), AreCanonical-tight zones all.1)

-- The empty list holds exactly a relation that never holds.
pub HoldExactly-empty : (relation : Pairs) → ((a b n : ℕ) → 0 < n → a ≤ b → relation a b n → ⊥)
    → HoldExactly [] relation
unfolding SetHolds
HoldExactly-empty relation never = search rules
