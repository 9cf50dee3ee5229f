-- A zone composed with those of a list, of which only those are looked at whose rows reach a key.
use Rattle.std.proofs.Common.{ℕ, ◌<◌, ◌≤◌, ◌↔◌, ℤ, List, map, take, Option, rules}
use Rattle.std.specs.List.{slice_range}
use Rattle.tre_lanes.specs.Rows.{Reaches, HasNone}
use Rattle.tre_pairs.specs.Pairs.{Pairs, Either, Composed, Lasting}
use Rattle.tre_zone.specs.Longest.{LastsUpTo}
use Rattle.tre_zone.specs.Zone.{ZoneHolds, IsCanonical, HasNoPair, GivesZone, row_of}
use Rattle.tre_zone.specs.ZoneList.{SetHolds, AreCanonical, HoldExactly}
use Rattle.tre_zone.specs.declared.zone_bounds.ZoneBounds.{ZoneBounds}
use Rattle.tre_zoneset.specs.ZoneSet.{FoundHolds}
use Rattle.tre_zone.proofs.ZoneListLemmas.{SetHolds-empty}
use Rattle.tre_zoneset.proofs.Searching.{IsKeyOf, IsKeyOf-canonical, HoldsFirst-none, HoldsFirst-passed}
use Rattle.tre_zoneset.proofs.Unions.{IsAdditive, FoundHolds-exact}
use Rattle.tre_star.proofs.Behind.{gathered_to}
use Rattle.tre_star.proofs.Composing.{Composed-additive_left, Composed-additive_right}
use Rattle.tre_star.proofs.Short.{short_additive, Lasting-exact, HasNoPair-short}

-- What F makes of the pairs of a list, as far as it lasts at most the longest.
module _ (longest : Option ℕ) (F : Pairs → Pairs) where
  short_key : (zones : List ZoneBounds) (key : List ℤ) → AreCanonical zones
      → ((other : ZoneBounds) → IsCanonical other → (Reaches (row_of other) key → ⊥)
      → HasNoPair (F (ZoneHolds other)))
      → IsKeyOf (λ R. Lasting (LastsUpTo longest) (F R)) zones key
  short_key zones key canonical others = search (rules, IsKeyOf-canonical, HasNoPair-short)

  short_found : (zone : ZoneBounds) (found : Option ZoneBounds)
      → GivesZone found (F (ZoneHolds zone)) → (a b n : ℕ) → 0 < n → a ≤ b
      → Lasting (LastsUpTo longest) (FoundHolds found) a b n
      ↔ Lasting (LastsUpTo longest) (F (ZoneHolds zone)) a b n
  short_found zone found given = search (rules, Lasting-exact, FoundHolds-exact)

-- The zone, and then what is given, as far as it lasts at most the longest.
abbrev pub After : Option ℕ → ZoneBounds → Pairs → Pairs
After longest zone = λ (R : Pairs). Lasting (LastsUpTo longest) (Composed (ZoneHolds zone) R)

-- What is given, and then the zone.
abbrev pub Before : Option ℕ → ZoneBounds → Pairs → Pairs
Before longest zone = λ (R : Pairs). Lasting (LastsUpTo longest) (Composed R (ZoneHolds zone))

module _ (longest : Option ℕ) (zone : ZoneBounds) where
  pub After-additive : IsAdditive (After longest zone)
  After-additive = search (rules, short_additive, Composed-additive_right)

  pub Before-additive : IsAdditive (Before longest zone)
  Before-additive = search (rules, short_additive, Composed-additive_left)

  pub After-key : (zones : List ZoneBounds) (key : List ℤ) → AreCanonical zones
      → ((other : ZoneBounds) → IsCanonical other → (Reaches (row_of other) key → ⊥)
      → HasNoPair (Composed (ZoneHolds zone) (ZoneHolds other)))
      → IsKeyOf (After longest zone) zones key
  After-key = short_key longest (Composed (ZoneHolds zone))

  pub Before-key : (zones : List ZoneBounds) (key : List ℤ) → AreCanonical zones
      → ((other : ZoneBounds) → IsCanonical other → (Reaches (row_of other) key → ⊥)
      → HasNoPair (Composed (ZoneHolds other) (ZoneHolds zone)))
      → IsKeyOf (Before longest zone) zones key
  Before-key = short_key longest (λ (R : Pairs). Composed R (ZoneHolds zone))

  pub After-found : (next : ZoneBounds) (found : Option ZoneBounds)
      → GivesZone found (Composed (ZoneHolds zone) (ZoneHolds next))
      → (a b n : ℕ) → 0 < n → a ≤ b
      → Lasting (LastsUpTo longest) (FoundHolds found) a b n
      ↔ After longest zone (ZoneHolds next) a b n
  After-found = short_found longest (Composed (ZoneHolds zone))

  pub Before-found : (next : ZoneBounds) (found : Option ZoneBounds)
      → GivesZone found (Composed (ZoneHolds next) (ZoneHolds zone))
      → (a b n : ℕ) → 0 < n → a ≤ b
      → Lasting (LastsUpTo longest) (FoundHolds found) a b n
      ↔ Before longest zone (ZoneHolds next) a b n
  Before-found = short_found longest (λ (R : Pairs). Composed R (ZoneHolds zone))

-- The zone with a stretch of a list, none of whose zones before it reach the key.
pub first_gathered : (longest : Option ℕ) (zone : ZoneBounds)
    (second found next : List ZoneBounds) (key : List ℤ) (from to : ℕ) → AreCanonical second
    → ((other : ZoneBounds) → IsCanonical other → (Reaches (row_of other) key → ⊥)
    → HasNoPair (Composed (ZoneHolds zone) (ZoneHolds other)))
    → HasNone (map row_of second) key 0 from → from ≤ to
    → HoldExactly next
    (Either (SetHolds found) (After longest zone (SetHolds (slice_range second from to))))
    → HoldExactly next (Either (SetHolds found) (After longest zone (SetHolds (take to second))))
first_gathered longest zone second found next key from to canonical others none rising more =
    gathered_to (After longest zone) (After-additive longest zone) found second from to found next
    rising
    (HoldsFirst-passed (After longest zone) (After-additive longest zone) found second found key
    (After-key longest zone second key canonical others) zone from none
    (HoldsFirst-none (After longest zone) found second
    (λ a b n h. SetHolds-empty _ _ _ h.related.right))).held
    more
