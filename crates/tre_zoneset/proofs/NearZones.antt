-- Zones that are apart from one by how far their begins reach.
use Rattle.std.proofs.Common.{◌≡◌, ℕ, suc, ◌+◌, ◌-◌, ◌<◌, ◌≤◌, List, [], ◌∷◌, ◌++◌, length, get_or, refl, sym, subst, ⊎_elim, arith, ◌<ℤ◌, rules}
use Rattle.std.proofs.lemmas.Int.{ints}
use Rattle.std.proofs.lemmas.Bool.{cases_lt}
use Rattle.std.proofs.lemmas.List.{get_or_append_left, length-append}
use Rattle.tre_zone.specs.Zone.{IsCanonical}
use Rattle.tre_zone.specs.ZoneList.{AreApart, IsApartFrom, AreCanonical}
use Rattle.tre_zone.specs.declared.zone_bounds.ZoneBounds.{ZoneBounds}
use Rattle.tre_zone.proofs.Tightness.{Includes-Covers}
use Rattle.tre_zoneset.specs.Near.{IsWithin, AreReached, IsReachedTo}
use Rattle.tre_zoneset.specs.declared.near.Reach.{Reach}
use Rattle.tre_zoneset.proofs.Searching.{canonical_at}

apart_beyond : (reach : Reach) (zone other : ZoneBounds) → IsCanonical zone → IsCanonical other
    → zone.begin_low <ℤ reach.low → reach.high <ℤ zone.begin_high → IsWithin reach other
    → AreApart zone other
apart_beyond reach zone other c d low high within =
    let own_low = within.low in
    let own_high = within.high in
    record {
      left = λ h.
          let covers = (Includes-Covers zone other d h).begin_low in
          omega (arith, ints, low, own_low, covers);
      right = λ h.
          let covers = (Includes-Covers other zone c h).begin_high in
          omega (arith, ints, high, own_high, covers);
    }

-- The zone is apart from those from the place on.
pub record IsApartBehind (zone : ZoneBounds) (zones : List ZoneBounds) (place : ℕ) : Type 0 where
  pub within : place ≤ length zones
  pub each : (k : ℕ) (d : ZoneBounds) → place ≤ k → k < length zones
      → AreApart zone (get_or zones k d)

pub IsApartBehind-end : (zone : ZoneBounds) (zones : List ZoneBounds)
    → IsApartBehind zone zones (length zones)
IsApartBehind-end zone zones = search rules

pub IsApartBehind-more : (zone : ZoneBounds) (zones : List ZoneBounds) (place : ℕ)
    → IsApartBehind zone zones (place + 1)
    → ((d : ZoneBounds) → AreApart zone (get_or zones place d)) → IsApartBehind zone zones place
IsApartBehind-more zone zones place behind here = search rules

pub IsApartFrom-behind : (zone : ZoneBounds) (zones : List ZoneBounds)
    → IsApartBehind zone zones 0 → IsApartFrom zone zones
unfolding IsApartFrom
IsApartFrom-behind zone [] behind = tt
IsApartFrom-behind zone (other ∷ zones) behind = (
  behind.each 0 zone (omega arith) (omega arith),
  IsApartFrom-behind zone zones (record {
    within = omega arith;
    each = λ k d starts ends. behind.each (suc k) d (omega arith) (omega (arith, ends));
  }),
)

-- Beyond the reach of those up to a place the zone is apart from all.
pub IsApartFrom-beyond : (zone : ZoneBounds) (zones : List ZoneBounds) (reaches : List Reach)
    (place : ℕ) (reach : Reach) → IsCanonical zone → AreCanonical zones
    → AreReached zones reaches → place < length zones → reach ≡ get_or reaches place reach
    → zone.begin_low <ℤ reach.low → reach.high <ℤ zone.begin_high
    → IsApartBehind zone zones (place + 1) → IsApartFrom zone zones
IsApartFrom-beyond zone zones reaches place reach c canonical reached within is low high behind =
    IsApartFrom-behind zone zones (record {
      within = omega arith;
      each = λ k d starts ends. ⊎_elim
          (λ more. behind.each k d (omega (arith, more)) ends)
          (λ no_more. apart_beyond reach zone (get_or zones k d) c
          (canonical_at zones k d canonical ends) low high
          (subst (λ (r : Reach). IsWithin r (get_or zones k d)) (sym is)
          (reached.each place k d reach (omega (arith, no_more)) within)))
          (cases_lt place k);
    })

pub AreReached-none : AreReached [] []
AreReached-none = search rules

seam : {X : Type 0} (xs : List X) (y d : X) → get_or (xs ++ y ∷ []) (length xs) d ≡ y
seam [] y d = refl
seam (x ∷ xs) y d = seam xs y d

-- One more zone.
pub AreReached-push : (zones : List ZoneBounds) (reaches next : List Reach) (zone : ZoneBounds)
    → AreReached zones reaches → IsReachedTo reaches zone next
    → AreReached (zones ++ zone ∷ []) next
AreReached-push zones reaches next zone old more =
    subst (λ (list : List Reach). AreReached (zones ++ zone ∷ []) list) (sym more.last)
    (record {
      count = omega (
        arith,
        old.count,
        length-append zones (zone ∷ []),
        length-append reaches (more.reach ∷ []),
      );
      each = λ k j d r le within.
          let size = length-append zones (zone ∷ []) in
          ⊎_elim
          (λ (early : k < length zones).
          let count = old.count in
          let inside : k < length reaches = omega (arith, early, count) in
          let inside' : j < length zones = omega (arith, early, le) in
          rw (
            get_or_append_left reaches (more.reach ∷ []) r k inside,
            get_or_append_left zones (zone ∷ []) d j inside',
          )
          (old.each k j d r le early))
          (λ late.
          let count = old.count in
          let last : k ≡ length reaches = omega (arith, late, within, size, count) in
          subst (λ (place : ℕ). IsWithin (get_or (reaches ++ more.reach ∷ []) place r)
          (get_or (zones ++ zone ∷ []) j d)) (sym last)
          (rw (seam reaches more.reach r)
          (⊎_elim
          (λ (early : j < length zones).
          rw (get_or_append_left zones (zone ∷ []) d j early)
          (before j d r early))
          (λ late'.
          let last' : j ≡ length zones = omega (arith, late', le, within, size) in
          subst (λ (place : ℕ). IsWithin more.reach (get_or (zones ++ zone ∷ []) place d))
          (sym last')
          (rw (seam zones zone d) more.own))
          (cases_lt j (length zones)))))
          (cases_lt k (length zones));
    })
  where
    before : (j : ℕ) (d : ZoneBounds) (r : Reach) → j < length zones
        → IsWithin more.reach (get_or zones j d)
    before j d r early =
        more.before (length zones - 1) r (get_or zones j d)
        (omega (arith, early, old.count))
        (old.each (length zones - 1) j d r (omega (arith, early)) (omega (arith, early)))
