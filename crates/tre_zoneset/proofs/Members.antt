-- Some member of a list of zones, and the list of a set with one more member.
use Rattle.std.proofs.Common.{◌≡◌, ℕ, zero, suc, ◌+◌, ◌<◌, ◌⊎◌, ◌↔◌, Bool, true, false, IsTrue, MatchBool, List, [], ◌∷◌, ◌++◌, length, get_or, take, Any, refl, sym, subst, ◌∙◌, inl, inr, ⊎_elim, arith, rules}
use Rattle.std.specs.List.{HoldsAt, AllWithin}
use Rattle.std.proofs.lemmas.List.{take_more, get_or_default}
use Rattle.tre_zone.specs.Zone.{ZoneHolds, IsCanonical}
use Rattle.tre_zone.specs.ZoneList.{SetHolds, IsApartFrom}
use Rattle.tre_zone.specs.declared.zone_bounds.ZoneBounds.{ZoneBounds}
use Rattle.tre_zone.proofs.ZoneListLemmas.{SetHolds-push, IsApart-empty, IsApart-push, AreCanonical-empty, AreCanonical-push}
use Rattle.tre_zoneset.specs.ZoneSet.{IsZoneSet}

pub Any-head : (P : ZoneBounds → Type 0) (zone : ZoneBounds) (zones : List ZoneBounds) → P zone
    → Any P (zone ∷ zones)
Any-head P zone zones p = (0, zone, omega arith, refl, p)

pub Any-tail : (P : ZoneBounds → Type 0) (zone : ZoneBounds) (zones : List ZoneBounds)
    → Any P zones → Any P (zone ∷ zones)
Any-tail P zone zones any = (suc any.0, any.1, omega (arith, any.2), any.3, any.4)

pub Any-cases : (P : ZoneBounds → Type 0) (zone : ZoneBounds) (zones : List ZoneBounds)
    → Any P (zone ∷ zones) → P zone ⊎ Any P zones
Any-cases P zone zones (zero, member, within, is, p) = inl (subst P (sym is) p)
Any-cases P zone zones (suc k, member, within, is, p) = search rules

-- A set holds a pair where some member does.
pub SetHolds-any : (zones : List ZoneBounds) (a b n : ℕ)
    → SetHolds zones a b n ↔ Any (λ zone. ZoneHolds zone a b n) zones
unfolding SetHolds
SetHolds-any [] a b n = ((λ h. absurd h), (λ any. absurd (omega (arith, any.2))))
SetHolds-any (zone ∷ zones) a b n =
    let rest = SetHolds-any zones a b n in (
      (λ h. ⊎_elim (λ x. Any-head (λ z. ZoneHolds z a b n) zone zones x)
          (λ x. Any-tail (λ z. ZoneHolds z a b n) zone zones (rest.0 x)) h),
      (λ any. ⊎_elim (λ x. inl x) (λ x. inr (rest.1 x))
          (Any-cases (λ z. ZoneHolds z a b n) zone zones any)),
    )

-- What a search for a member answers.
any_at : (P : ZoneBounds → Type 0) (zones : List ZoneBounds) (k : ℕ) → k < length zones
    → HoldsAt P zones k → Any P zones
any_at P [] k within at = absurd (omega arith)
any_at P (zone ∷ zones) zero within at = Any-head P zone zones (at zone)
any_at P (zone ∷ zones) (suc k) within at =
    Any-tail P zone zones (any_at P zones k (omega arith) at)

pub any_is : (P : ZoneBounds → Type 0) (answer : Bool) (zones : List ZoneBounds)
    → MatchBool answer ((k : ℕ) × (k < length zones) × HoldsAt P zones k)
    (AllWithin (λ zone. P zone → ⊥) zones 0 (length zones))
    → IsTrue answer ↔ Any P zones
any_is P true zones found = ((λ t. any_at P zones found.0 found.1 found.2), (λ any. refl))
any_is P false zones none = search rules

pub IsZoneSet-empty : IsZoneSet []
IsZoneSet-empty = record { apart = IsApart-empty; canonical = AreCanonical-empty }

pub IsZoneSet-push : (zones : List ZoneBounds) (zone : ZoneBounds) → IsZoneSet zones
    → IsApartFrom zone zones → IsCanonical zone → IsZoneSet (zones ++ zone ∷ [])
IsZoneSet-push zones zone set apart canonical =
    search (rules, IsApart-push, AreCanonical-push, set.apart, set.canonical)

-- The first zones of a list, and one more.
pub SetHolds-more : (zones : List ZoneBounds) (i : ℕ) (zone : ZoneBounds) → i < length zones
    → zone ≡ get_or zones i zone → (a b n : ℕ)
    → SetHolds (take (i + 1) zones) a b n ↔ (SetHolds (take i zones) a b n ⊎ ZoneHolds zone a b n)
SetHolds-more zones i zone within is a b n =
    let last = SetHolds-push (take i zones) zone a b n in
    rw (take_more zones i zone within, ← is) last

-- The first zones of a list are a set, and the next one is apart from them.
pub IsZoneSet-next : (zones : List ZoneBounds) (place : ℕ) (zone other : ZoneBounds)
    → place < length zones → zone ≡ get_or zones place zone → other ≡ get_or zones place other
    → IsCanonical zone → IsApartFrom other (take place zones) → IsZoneSet (take place zones)
    → IsZoneSet (take (place + 1) zones)
IsZoneSet-next zones place zone other within is other_is canonical apart set =
    let same : other ≡ zone =
    other_is ∙ get_or_default zones place other zone within ∙ sym is in
    rw (take_more zones place zone within, ← is)
    (IsZoneSet-push (take place zones) zone set
    (subst (λ (z : ZoneBounds). IsApartFrom z (take place zones)) same apart) canonical)
