-- Unions, compositions and chains of which only the short pairs count.
use Rattle.std.proofs.Common.{◌-◌, ℕ, ◌<◌, ◌≤◌, ◌↔◌, List, Option, Some, None, rules}
use Rattle.tre_pairs.specs.Pairs.{Pairs, Either, Lasting}
use Rattle.tre_zone.specs.Longest.{LastsUpTo}
use Rattle.tre_zone.specs.Zone.{IsInstantBetween, HasNoPair, ZoneHolds, GivesZone}
use Rattle.tre_zone.specs.ZoneList.{SetHolds, HoldExactly}
use Rattle.tre_zone.specs.declared.zone_bounds.ZoneBounds.{ZoneBounds}
use Rattle.tre_zoneset.specs.ZoneSet.{FoundHolds}
use Rattle.tre_zoneset.proofs.Unions.{IsAdditive, FoundHolds-exact}

pub short_additive : (D : ℕ → ℕ → Type 0) (F : Pairs → Pairs) → IsAdditive F
    → IsAdditive (λ R. Lasting D (F R))
short_additive D F additive R S T same = search rules

pub Lasting-exact : (D : ℕ → ℕ → Type 0) (P Q : Pairs)
    → ((a b n : ℕ) → 0 < n → a ≤ b → P a b n ↔ Q a b n) → (a b n : ℕ) → 0 < n → a ≤ b
    → Lasting D P a b n ↔ Lasting D Q a b n
Lasting-exact D P Q same a b n some le = search rules

pub HasNoPair-short : (D : ℕ → ℕ → Type 0) (R : Pairs) → HasNoPair R → HasNoPair (Lasting D R)
HasNoPair-short D R none = search rules

-- Where there is no longest, all count.
pub HoldExactly-unbounded : (zones : List ZoneBounds) (R : Pairs)
    → HoldExactly zones (Lasting (LastsUpTo None) R) → HoldExactly zones R
HoldExactly-unbounded zones R held = search rules

pub HoldExactly-same : (zones : List ZoneBounds) (start P Q : Pairs)
    → ((a b n : ℕ) → 0 < n → a ≤ b → P a b n ↔ Q a b n)
    → HoldExactly zones (Either start P) → HoldExactly zones (Either start Q)
HoldExactly-same zones start P Q same held = search rules

-- The zone that was found, cut to the longest.
pub gathered_some : (longest : Option ℕ) (zone : ZoneBounds) (cut : Option ZoneBounds)
    (start new : List ZoneBounds)
    → GivesZone cut (Lasting (LastsUpTo longest) (ZoneHolds zone))
    → HoldExactly new (Either (SetHolds start) (FoundHolds cut))
    → HoldExactly new (Either (SetHolds start) (Lasting (LastsUpTo longest) (ZoneHolds zone)))
gathered_some longest zone cut start new given held =
    search (rules, HoldExactly-same, FoundHolds-exact)

pub found_some : (longest : Option ℕ) (zone : ZoneBounds) (start new : List ZoneBounds)
    → HoldExactly new (Either (SetHolds start) (Lasting (LastsUpTo longest) (ZoneHolds zone)))
    → HoldExactly new (Either (SetHolds start) (Lasting (LastsUpTo longest)
    (FoundHolds (Some zone))))
unfolding FoundHolds
found_some longest zone start new held = search rules

pub found_none : (longest : Option ℕ) (zones : List ZoneBounds)
    → HoldExactly zones (Either (SetHolds zones) (Lasting (LastsUpTo longest) (FoundHolds None)))
unfolding FoundHolds
found_none longest zones = search rules

-- An instant lasts no longer than any longest.
pub instants_short : (longest : Option ℕ) (from to a b n : ℕ) → IsInstantBetween from to a b n
    → LastsUpTo longest (b - a) n
instants_short longest from to a b n h = search rules
