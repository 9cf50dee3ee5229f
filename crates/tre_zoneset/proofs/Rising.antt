-- Zones of which each rises behind the one before it are apart.
use Rattle.std.proofs.Common.{◌≡◌, ℕ, ◌+◌, ◌<◌, ◌≤◌, List, [], ◌∷◌, ◌++◌, length, get_or, take, Option, Some, None, subst, inl, inr, arith, ℤ, ◌≤ℤ◌, rules}
use Rattle.std.proofs.lemmas.Int.{ints}
use Rattle.std.proofs.lemmas.List.{take_more, take_all}
use Rattle.tre_zone.specs.Zone.{Covers, IsCanonical}
use Rattle.tre_zone.specs.ZoneList.{IsApartFrom, AreApart, AreCanonical}
use Rattle.tre_zone.specs.declared.zone_bounds.ZoneBounds.{ZoneBounds}
use Rattle.tre_zone.proofs.Tightness.{Includes-Covers}
use Rattle.tre_zoneset.specs.Rise.{IsLess, IsHigher, Rises, IsBehind}
use Rattle.tre_zoneset.specs.declared.rise.High.{High}
use Rattle.tre_zoneset.specs.declared.rise.High.TheVariants.{Begin, End}
use Rattle.tre_zoneset.specs.ZoneSet.{IsZoneSet}
use Rattle.tre_zoneset.proofs.Members.{IsZoneSet-empty, IsZoneSet-push}

-- ---- two zones

less_trans : (a b c d e f : ℤ) → IsLess a b c d → IsLess c d e f → IsLess a b e f
unfolding IsLess
less_trans a b c d e f (inl one) (inl two) = inl (omega (arith, ints, one, two))
less_trans a b c d e f (inl one) (inr two) = inl (rw two.0 at one)
less_trans a b c d e f (inr one) (inl two) = inl (rw (← one.0) at two)
less_trans a b c d e f (inr one) (inr two) = search rules

not_less : (a b c d : ℤ) → IsLess a b c d → c ≤ℤ a → d ≤ℤ b → ⊥
unfolding IsLess
not_less a b c d (inl one) first second = omega (arith, ints, one, first)
not_less a b c d (inr one) first second = let less = one.1 in omega (arith, ints, less, second)

higher_trans : (high : High) (one two three : ZoneBounds) → IsHigher high one two
    → IsHigher high two three → IsHigher high one three
unfolding IsHigher
higher_trans Begin one two three first second = less_trans _ _ _ _ _ _ first second
higher_trans End one two three first second = less_trans _ _ _ _ _ _ first second

rises_trans : (high : High) (one two three : ZoneBounds) → Rises high one two
    → Rises high two three → Rises high one three
rises_trans high one two three first second =
    search (rules, less_trans, higher_trans, second.later, first.higher)

not_higher : (high : High) (before zone : ZoneBounds) → IsHigher high before zone
    → Covers before zone → ⊥
unfolding IsHigher
not_higher Begin before zone higher covers =
    not_less _ _ _ _ higher covers.begin_high covers.end_high
not_higher End before zone higher covers =
    not_less _ _ _ _ higher covers.end_high covers.dur_high

apart : (high : High) (early late : ZoneBounds) → IsCanonical early → IsCanonical late
    → Rises high early late → AreApart late early
apart high early late c d rises =
    search (rules, Includes-Covers, not_less, not_higher, rises.later, rises.higher)

pub IsBehind-some : (high : High) (before zone : ZoneBounds) → Rises high before zone
    → IsBehind high (Some before) zone
unfolding IsBehind
IsBehind-some high before zone rises = rises

pub IsBehind-none : (high : High) (zone : ZoneBounds) → IsBehind high None zone
unfolding IsBehind
IsBehind-none high zone = tt

-- ---- one zone behind a list

-- The zone rises behind each of the list.
unfoldable pub AllBefore : High → List ZoneBounds → ZoneBounds → Type 0
AllBefore high [] zone = Unit {0}
AllBefore high (other ∷ zones) zone = Rises high other zone × AllBefore high zones zone

module _ (high : High) where
  before_trans : (zones : List ZoneBounds) (zone next : ZoneBounds) → AllBefore high zones zone
      → Rises high zone next → AllBefore high (zones ++ zone ∷ []) next
  unfolding AllBefore
  before_trans [] zone next all rises = (rises, tt)
  before_trans (other ∷ zones) zone next all rises =
      (rises_trans high other zone next all.0 rises, before_trans zones zone next all.1 rises)

  apart_from : (zone : ZoneBounds) → IsCanonical zone → (zones : List ZoneBounds)
      → AreCanonical zones → AllBefore high zones zone → IsApartFrom zone zones
  unfolding IsApartFrom AllBefore AreCanonical
  apart_from zone c [] all before = tt
  apart_from zone c (other ∷ zones) all before =
      (apart high other zone all.0 c before.0, apart_from zone c zones all.1 before.1)

-- ---- the zones that were looked at

-- They are a set, and what rises behind the last of them rises behind all.
pub record HaveRisen (high : High) (zones : List ZoneBounds) (before : Option ZoneBounds)
    : Type 0 where
  pub set : IsZoneSet zones
  pub all : (next : ZoneBounds) → IsBehind high before next → AllBefore high zones next

pub HaveRisen-empty : (high : High) → HaveRisen high [] None
unfolding AllBefore
HaveRisen-empty high = record { set = IsZoneSet-empty; all = λ next behind. tt }

push : (high : High) (zones : List ZoneBounds) (before : Option ZoneBounds) (zone : ZoneBounds)
    → HaveRisen high zones before → IsCanonical zone → IsBehind high before zone
    → HaveRisen high (zones ++ zone ∷ []) (Some zone)
unfolding IsBehind
push high zones before zone old c behind = record {
  set = IsZoneSet-push zones zone old.set
      (apart_from high zone c zones old.set.canonical (old.all zone behind)) c;
  all = λ next rises. before_trans high zones zone next (old.all zone behind) rises;
}

-- The same for the next zone of a list.
pub HaveRisen-next : (high : High) (zones : List ZoneBounds) (i : ℕ) (before : Option ZoneBounds)
    (zone bounds : ZoneBounds) → i < length zones → zone ≡ get_or zones i zone → bounds ≡ zone
    → HaveRisen high (take i zones) before → IsCanonical zone → IsBehind high before bounds
    → HaveRisen high (take (i + 1) zones) (Some bounds)
HaveRisen-next high zones i before zone bounds within is same old c behind =
    rw (take_more zones i zone within, ← is, same)
    (push high (take i zones) before zone old c (rw same at behind))

pub HaveRisen-all : (high : High) (zones : List ZoneBounds) (i : ℕ) (before : Option ZoneBounds)
    → length zones ≤ i → HaveRisen high (take i zones) before → IsZoneSet zones
HaveRisen-all high zones i before all old =
    subst (λ (list : List ZoneBounds). IsZoneSet list) (take_all i zones all) old.set
