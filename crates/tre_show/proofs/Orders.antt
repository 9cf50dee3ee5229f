-- A list of zones in another order is a set of zones as before.
use Rattle.std.proofs.Common.{◌≡◌, ◌≢◌, ℕ, zero, suc, ◌<◌, ◌⊎◌, List, [], ◌∷◌, ◌++◌, length, get_or, take, drop, refl, ap, ◌∙◌, arith, inl, inr, ⊎_elim, rules}
use Rattle.std.specs.Prelude.{All}
use Rattle.std.specs.List.{swap}
use Rattle.std.specs.List.Sorted.{IsPermutation}
use Rattle.std.proofs.lemmas.Bool.{cases_eq}
use Rattle.std.proofs.lemmas.List.{take-append-le, take_all}
use Rattle.std.proofs.lemmas.List.Elements.{All-cons, All-nil}
use Rattle.std.proofs.lemmas.List.Sorted.{IsPermutation-keeps, All-permutation}
use Rattle.std.proofs.lemmas.List.Edits.{swapped_from_swap, length-swap}
use Rattle.tre_zone.specs.Zone.{IsCanonical}
use Rattle.tre_zone.specs.ZoneList.{IsApart, IsApartFrom, AreApart, AreCanonical}
use Rattle.tre_zone.specs.declared.zone_bounds.ZoneBounds.{ZoneBounds}
use Rattle.tre_zone.proofs.ZoneListLemmas.{AreApart-swap, IsApartFrom-at}

-- any two of the list, at two places, are apart
abbrev AnyTwoApart : List ZoneBounds → Type 0
AnyTwoApart zones = (p q : ℕ) (d : ZoneBounds) → p < length zones → q < length zones → p ≢ q
    → AreApart (get_or zones p d) (get_or zones q d)

apart_at : (zones : List ZoneBounds) (p q : ℕ) (d : ZoneBounds) → IsApart zones → p < length zones
    → q < length zones → p ≢ q → AreApart (get_or zones p d) (get_or zones q d)
unfolding IsApart
apart_at [] p q d apart below other two = absurd (omega (arith, below))
apart_at (zone ∷ zones) zero zero d apart below other two = absurd (two refl)
apart_at (zone ∷ zones) zero (suc q) d apart below other two =
    IsApartFrom-at zone zones q d apart.0 (omega (arith, other))
apart_at (zone ∷ zones) (suc p) zero d apart below other two =
    AreApart-swap zone _ (IsApartFrom-at zone zones p d apart.0 (omega (arith, below)))
apart_at (zone ∷ zones) (suc p) (suc q) d apart below other two =
    apart_at zones p q d apart.1 (omega (arith, below)) (omega (arith, other)) (λ e. two (ap suc e))

from_places : (zone : ZoneBounds) (zones : List ZoneBounds)
    → ((k : ℕ) (d : ZoneBounds) → k < length zones → AreApart zone (get_or zones k d))
    → IsApartFrom zone zones
unfolding IsApartFrom
from_places zone [] each = tt
from_places zone (other ∷ zones) each = (
  each 0 other (omega arith),
  from_places zone zones (λ k d below. each (suc k) d (omega (arith, below))),
)

apart_again : (zones : List ZoneBounds) → AnyTwoApart zones → IsApart zones
unfolding IsApart
apart_again [] any = tt
apart_again (zone ∷ zones) any =
    let rest : AnyTwoApart zones = λ p q d below other two. any (suc p) (suc q) d
    (omega (arith, below)) (omega (arith, other)) (λ e. two (omega (arith, e))) in (
      from_places zone zones (λ k d below. any 0 (suc k) d (omega arith) (omega (arith, below))
          (λ e. absurd (omega (arith, e)))),
      apart_again zones rest,
    )

-- Where an element of a list with two exchanged stood before.
abbrev StoodAt : ℕ → ℕ → ℕ → ℕ → Type 0
StoodAt i j k place = ((k ≡ j) × (place ≡ i))
    ⊎ (((k ≢ j) × ((k ≡ i) × (place ≡ j))) ⊎ ((k ≢ j) × ((k ≢ i) × (place ≡ k))))

abbrev Stood : List ZoneBounds → ℕ → ℕ → ℕ → ZoneBounds → Type 0
Stood l i j k d = (place : ℕ) × (k < length l → place < length l)
    × (get_or (swap l i j) k d ≡ get_or l place d) × StoodAt i j k place

stood : (l : List ZoneBounds) (i j k : ℕ) (d : ZoneBounds) → i < length l → j < length l
    → Stood l i j k d
stood l i j k d below other =
    let is = swapped_from_swap l (swap l i j) i j d below other refl in
    let at = λ (m : ℕ) (e : k ≡ m). ap (λ n. get_or (swap l i j) n d) e in
    ⊎_elim (λ (last : k ≡ j). (i, (λ _. below), at j last ∙ is.1, inl (last, refl)))
    (λ (differs : k ≢ j). ⊎_elim
    (λ (first : k ≡ i). (j, (λ _. other), at i first ∙ is.0, inr (inl (differs, (first, refl)))))
    (λ (apart : k ≢ i).
    (k, (λ inside. inside), is.2 k apart differs, inr (inr (differs, (apart, refl)))))
    (cases_eq k i)) (cases_eq k j)

-- two places that differ stood at two that differed
differed : (i j p q m m' : ℕ) → p ≢ q → StoodAt i j p m → StoodAt i j q m' → m ≢ m'
differed i j p q m m' two from from' = grind arith

swap_apart : (l : List ZoneBounds) (i j : ℕ) → i < length l → j < length l → AnyTwoApart l
    → AnyTwoApart (swap l i j)
swap_apart l i j below other any = λ p q d here there two.
    let was = stood l i j p d below other in
    let was' = stood l i j q d below other in
    rw (was.2, was'.2) (any was.0 was'.0 d
    (was.1 (omega (arith, here, length-swap l i j)))
    (was'.1 (omega (arith, there, length-swap l i j)))
    (differed i j p q _ _ two was.3 was'.3))

pub IsApart-permutation : (zones others : List ZoneBounds) → IsPermutation zones others
    → IsApart zones → IsApart others
IsApart-permutation zones others order apart =
    apart_again others (IsPermutation-keeps zones AnyTwoApart
    (λ p q d below other two. apart_at zones p q d apart below other two) swap_apart others order)

canonical_each : (zones : List ZoneBounds) → AreCanonical zones → All IsCanonical zones
unfolding AreCanonical
canonical_each [] all = All-nil IsCanonical
canonical_each (zone ∷ zones) all =
    All-cons IsCanonical zone zones all.0 (canonical_each zones all.1)

canonical_again : (zones : List ZoneBounds) → All IsCanonical zones → AreCanonical zones
unfolding AreCanonical
canonical_again [] each = tt
canonical_again (zone ∷ zones) each =
    let rest : All IsCanonical zones = λ k d below. each (suc k) d (omega (arith, below)) in
    (each 0 zone (omega arith), canonical_again zones rest)

pub AreCanonical-permutation : (zones others : List ZoneBounds) → IsPermutation zones others
    → AreCanonical zones → AreCanonical others
AreCanonical-permutation zones others order all =
    search (rules, canonical_again, All-permutation, canonical_each)

-- A list that was changed in a vector's place is what the vector holds then.
pub written_back : (new old : List ZoneBounds) (len : ℕ) → length new ≡ len
    → take len (new ++ drop (length new) old) ≡ new
written_back new old len e = search (rules, take-append-le, take_all)
