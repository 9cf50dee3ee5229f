-- Cuts of lists of zones, one zone after another.
use Rattle.std.proofs.Common.{◌≡◌, ℕ, ◌+◌, ◌<◌, ◌≤◌, ◌↔◌, List, [], length, get_or, take, Option, subst, rules}
use Rattle.std.proofs.lemmas.List.{take_all}
use Rattle.tre_pairs.specs.Pairs.{Pairs, Both, Lasting}
use Rattle.tre_zone.specs.Interval.{IntervalEnds, LastsWithin}
use Rattle.tre_pairs.specs.declared.TheConstants.{TIME_MAX}
use Rattle.tre_zone.specs.Longest.{LastsUpTo, IsLongest, AllLastUpTo}
use Rattle.tre_zone.specs.Zone.{ZoneHolds, Includes, EndsAt, IsZoneOf, GivesZone}
use Rattle.tre_zone.specs.ZoneList.{SetHolds, HoldExactly}
use Rattle.tre_zone.specs.declared.zone_bounds.ZoneBounds.{ZoneBounds}
use Rattle.tre_zone.proofs.Given.{GivesZone-same}
use Rattle.tre_zone.proofs.ZoneListLemmas.{SetHolds-empty}
use Rattle.tre_zoneset.specs.Cut.{Leaves, IsCut, LeavesAll}
use Rattle.tre_zoneset.specs.declared.cut.Cut.{Cut}
use Rattle.tre_zoneset.specs.declared.cut.Cut.TheVariants.{Within, UpTo, EndingAt}
use Rattle.tre_zoneset.proofs.Members.{SetHolds-more}

-- ---- a cut that leaves all

pub LeavesAll-none : (cut : Cut) → LeavesAll cut (SetHolds [])
LeavesAll-none cut = record { each = λ a b n some le h. absurd (SetHolds-empty a b n h) }

pub LeavesAll-more : (cut : Cut) (zones : List ZoneBounds) (i : ℕ) (zone : ZoneBounds)
    → i < length zones → zone ≡ get_or zones i zone → LeavesAll cut (SetHolds (take i zones))
    → LeavesAll cut (ZoneHolds zone) → LeavesAll cut (SetHolds (take (i + 1) zones))
LeavesAll-more cut zones i zone within is old own =
    search (rules, SetHolds-more, old.each, own.each)

pub LeavesAll-all : (cut : Cut) (zones : List ZoneBounds) (i : ℕ) → length zones ≤ i
    → LeavesAll cut (SetHolds (take i zones)) → LeavesAll cut (SetHolds zones)
LeavesAll-all cut zones i all old =
    subst (λ (list : List ZoneBounds). LeavesAll cut (SetHolds list)) (take_all i zones all) old

-- A zone that what the cut leaves of it includes.
pub LeavesAll-left : (cut : Cut) (zone rest : ZoneBounds)
    → IsZoneOf rest (Both (ZoneHolds zone) (Leaves cut)) → Includes rest zone
    → LeavesAll cut (ZoneHolds zone)
LeavesAll-left cut zone rest is includes = search rules

-- A zone of which every pair is short enough.
pub LeavesAll-up_to : (longest : Option ℕ) (zone : ZoneBounds) → AllLastUpTo longest zone
    → LeavesAll (UpTo longest) (ZoneHolds zone)
unfolding Leaves
LeavesAll-up_to longest zone all = search rules

pub HoldExactly-left : (cut : Cut) (zones : List ZoneBounds) → LeavesAll cut (SetHolds zones)
    → HoldExactly zones (Both (SetHolds zones) (Leaves cut))
HoldExactly-left cut zones all = search rules

-- ---- the three cuts

within_is : (interval : IntervalEnds) (P : Pairs) (a b n : ℕ)
    → Lasting (LastsWithin interval) P a b n ↔ Both P (Leaves (Within interval)) a b n
unfolding Leaves
within_is interval P a b n = search rules

up_to_is : (longest : Option ℕ) (P : Pairs) (a b n : ℕ)
    → Lasting (LastsUpTo longest) P a b n ↔ Both P (Leaves (UpTo longest)) a b n
unfolding Leaves
up_to_is longest P a b n = search rules

ending_is : (time : ℕ) (P : Pairs) (a b n : ℕ)
    → Both P (EndsAt time) a b n ↔ Both P (Leaves (EndingAt time)) a b n
unfolding Leaves
ending_is time P a b n = search rules

same : (zones : List ZoneBounds) (P Q : Pairs)
    → ((a b n : ℕ) → P a b n ↔ Q a b n) → HoldExactly zones Q → HoldExactly zones P
same zones P Q is held = search rules

pub HoldExactly-within : (interval : IntervalEnds) (zones : List ZoneBounds) (P : Pairs)
    → HoldExactly zones (Both P (Leaves (Within interval)))
    → HoldExactly zones (Lasting (LastsWithin interval) P)
HoldExactly-within interval zones P held = same zones _ _ (within_is interval P) held

pub HoldExactly-up_to : (longest : Option ℕ) (zones : List ZoneBounds) (P : Pairs)
    → HoldExactly zones (Both P (Leaves (UpTo longest)))
    → HoldExactly zones (Lasting (LastsUpTo longest) P)
HoldExactly-up_to longest zones P held = same zones _ _ (up_to_is longest P) held

pub HoldExactly-ending : (time : ℕ) (zones : List ZoneBounds) (P : Pairs)
    → HoldExactly zones (Both P (Leaves (EndingAt time)))
    → HoldExactly zones (Both P (EndsAt time))
HoldExactly-ending time zones P held = same zones _ _ (ending_is time P) held

pub GivesZone-within : (interval : IntervalEnds) (found : Option ZoneBounds) (P : Pairs)
    → GivesZone found (Lasting (LastsWithin interval) P)
    → GivesZone found (Both P (Leaves (Within interval)))
GivesZone-within interval found P gives =
    GivesZone-same found _ _ (λ a b n some le. within_is interval P a b n) gives

pub GivesZone-up_to : (longest : Option ℕ) (found : Option ZoneBounds) (P : Pairs)
    → GivesZone found (Lasting (LastsUpTo longest) P)
    → GivesZone found (Both P (Leaves (UpTo longest)))
GivesZone-up_to longest found P gives =
    GivesZone-same found _ _ (λ a b n some le. up_to_is longest P a b n) gives

pub GivesZone-ending : (time : ℕ) (found : Option ZoneBounds) (P : Pairs)
    → GivesZone found (Both P (EndsAt time))
    → GivesZone found (Both P (Leaves (EndingAt time)))
GivesZone-ending time found P gives =
    GivesZone-same found _ _ (λ a b n some le. ending_is time P a b n) gives

-- What each of them names can be named.

pub IsCut-within : (interval : IntervalEnds) → IsCut (Within interval)
unfolding IsCut
IsCut-within interval = tt

pub IsCut-up_to : (longest : Option ℕ) → IsLongest longest → IsCut (UpTo longest)
unfolding IsCut
IsCut-up_to longest is = is

pub IsCut-ending : (time : ℕ) → time ≤ TIME_MAX → IsCut (EndingAt time)
unfolding IsCut
IsCut-ending time le = le
