-- Zones in the order of their lines, each once.
use Rattle.std.proofs.Common.{◌≡◌, ℕ, zero, suc, ◌+◌, ◌-◌, ◌<◌, ◌≤◌, ◌⊎◌, ◌↔◌, Bool, true, false, List, [], ◌∷◌, length, get_or, refl, sym, ap, subst, ◌∙◌, arith, inl, inr, ⊎_elim, true≢false, rules}
use Rattle.std.specs.Prelude.{Contains}
use Rattle.std.specs.List.{dedup, AllByRecursion}
use Rattle.std.specs.List.Sorted.{IsSortedByKey, IsPermutation}
use Rattle.std.specs.List.Sorted.{IsStrictlySortedBy}
use Rattle.std.specs.Cmp.{IsTotalOrder, IsEquivalence, int_cmp_total, on_total, eq_by_cmp_equiv}
use Rattle.std.specs.Cmp.Lexicographic.{slice_cmp, pointwise, lists_total, lists_ties}
use Rattle.std.specs.Ordering.{int_cmp, int_eq, eq_by_cmp, ordering_reverse, is_lt, is_eq}
use Rattle.std.specs.declared.cmp.Ordering.{Ordering}
use Rattle.std.specs.declared.cmp.Ordering.TheVariants.{Less, Equal, Greater}
use Rattle.std.proofs.lemmas.Bool.{cases_lt}
use Rattle.std.proofs.lemmas.Bool.Decides.{Decides-int_eq}
use Rattle.std.proofs.lemmas.List.{get_or_default}
use Rattle.std.proofs.lemmas.List.Elements.{All-from_recursion, All-get_or, All-contains}
use Rattle.std.proofs.lemmas.List.Kept.{IsStrictlySortedBy-dedup, Contains-dedup, Contains-from_dedup}
use Rattle.std.proofs.lemmas.List.Sorted.{Contains-permutation, IsPermutation-sym, ranks_by, sorted_far}
use Rattle.std.proofs.lemmas.Slice.Eq.{slice_eq-Decides}
use Rattle.tre_zone.specs.Zone.{Includes, HoldsSome, IsTight}
use Rattle.tre_zone.specs.ZoneList.{SetHolds, IsApart, IsApartFrom, AreApart, AreTight}
use Rattle.tre_zone.specs.declared.zone_bounds.ZoneBounds.{ZoneBounds}
use Rattle.tre_zoneset.proofs.Members.{SetHolds-any}
use Rattle.tre_strips.specs.Listed.{line_key, compare_lines, AreListed}

abbrev pub compare : ZoneBounds → ZoneBounds → Ordering
compare = compare_lines

abbrev pub same_line : ZoneBounds → ZoneBounds → Bool
same_line one other = pointwise int_eq (line_key one) (line_key other)

compare_total : IsTotalOrder compare
compare_total = on_total line_key (lists_total int_cmp_total)

ties : (one other : ZoneBounds) → same_line one other ≡ eq_by_cmp compare one other
ties one other = lists_ties int_cmp (λ x y. refl) (line_key one) (line_key other)

same_keys : (one other : ZoneBounds) → line_key one ≡ line_key other → one ≡ other
same_keys one other e = search rules

same_lines : (one other : ZoneBounds) → same_line one other ≡ true → one ≡ other
same_lines one other e =
    same_keys one other
    ((slice_eq-Decides Decides-int_eq (line_key one) (line_key other) (same_line one other) refl).0
    e)

-- Sorted by their lines, and without repeats.
pub in_order : (sorted zones : List ZoneBounds) → IsSortedByKey line_key (slice_cmp int_cmp) sorted
    → zones ≡ dedup same_line sorted → IsStrictlySortedBy compare zones
in_order sorted zones rising is = search (rules, IsStrictlySortedBy-dedup, compare_total, ties)

same_test : same_line ≡ eq_by_cmp compare
same_test = λ i one other. ties one other i

equivalent : IsEquivalence same_line
equivalent = subst IsEquivalence (sym same_test) (eq_by_cmp_equiv compare_total)

pub same_members : (found sorted zones : List ZoneBounds) → IsPermutation found sorted
    → zones ≡ dedup same_line sorted
    → (zone : ZoneBounds) → Contains zones zone ↔ Contains found zone
same_members found sorted zones order is zone = (
  (λ has. Contains-permutation sorted found zone (IsPermutation-sym found sorted order)
      (Contains-from_dedup same_line sorted zone
      (subst (λ (l : List ZoneBounds). Contains l zone) is has))),
  (λ has. subst (λ (l : List ZoneBounds). Contains l zone) (sym is)
      (Contains-dedup equivalent same_lines sorted zone
      (Contains-permutation found sorted zone order has))),
)

members_held : (one other : List ZoneBounds)
    → ((zone : ZoneBounds) → Contains one zone → Contains other zone) → (a b n : ℕ)
    → SetHolds one a b n → SetHolds other a b n
members_held one other sub a b n h =
    let any = (SetHolds-any one a b n).0 h in
    let has = sub any.1 (any.0, any.2, any.3) in
    (SetHolds-any other a b n).1 (has.0, any.1, has.1, has.2, any.4)

-- Lists with the same members hold the same.
pub same_members_held : (one other : List ZoneBounds)
    → ((zone : ZoneBounds) → Contains one zone ↔ Contains other zone) → (a b n : ℕ)
    → SetHolds one a b n ↔ SetHolds other a b n
same_members_held one other same a b n = (
  (λ h. members_held one other (λ zone has. (same zone).0 has) a b n h),
  (λ h. members_held other one (λ zone has. (same zone).1 has) a b n h),
)

-- ---- strictly sorted

less_all : (zone other : ZoneBounds) (zones : List ZoneBounds) → compare zone other ≡ Less
    → AllByRecursion (λ (next : ZoneBounds). compare other next ≡ Less) zones
    → AllByRecursion (λ (next : ZoneBounds). compare zone next ≡ Less) zones
less_all zone other [] less all = tt
less_all zone other (next ∷ zones) less all =
    (compare_total.trans zone other next less all.0, less_all zone other zones less all.1)

first_less : (zone : ZoneBounds) (zones : List ZoneBounds) → IsStrictlySortedBy compare zones
    → ((d : ZoneBounds) → 0 < length zones → compare zone (get_or zones 0 d) ≡ Less)
    → AllByRecursion (λ (next : ZoneBounds). compare zone next ≡ Less) zones
unfolding IsStrictlySortedBy
first_less zone [] sorted less = tt
first_less zone (other ∷ zones) sorted less =
    let first : compare zone other ≡ Less = less other (omega arith) in
    (first, less_all zone other zones first sorted.0)

-- The zones up to a place rise, and the next one comes behind.
pub next_rising : (zones : List ZoneBounds) (place : ℕ) (one other : ZoneBounds)
    → ((k : ℕ) (d : ZoneBounds) → suc k < place
    → compare (get_or zones k d) (get_or zones (suc k) d) ≡ Less)
    → place < length zones → one ≡ get_or zones (place - 1) one → other ≡ get_or zones place other
    → compare one other ≡ Less
    → (k : ℕ) (d : ZoneBounds) → suc k < place + 1
    → compare (get_or zones k d) (get_or zones (suc k) d) ≡ Less
next_rising zones place one other before within is is' less k d below =
    ⊎_elim (λ (lt : suc k < place). before k d lt)
    (λ (past : place ≤ suc k).
    let at : k ≡ place - 1 = omega (arith, past, below) in
    let at' : suc k ≡ place = omega (arith, past, below) in
    let first : get_or zones k d ≡ one =
    ap (λ i. get_or zones i d) at
    ∙ (get_or_default zones (place - 1) d one (omega (arith, within)) ∙ sym is) in
    let second : get_or zones (suc k) d ≡ other =
    ap (λ i. get_or zones i d) at' ∙ (get_or_default zones place d other within ∙ sym is') in
    subst (λ (z : ZoneBounds). compare z (get_or zones (suc k) d) ≡ Less) (sym first)
    (subst (λ (z : ZoneBounds). compare one z ≡ Less) (sym second) less))
    (cases_lt (suc k) place)

-- What each is before the next of.
pub rising_all : (zones : List ZoneBounds)
    → ((k : ℕ) (d : ZoneBounds) → suc k < length zones
    → compare (get_or zones k d) (get_or zones (suc k) d) ≡ Less)
    → IsStrictlySortedBy compare zones
unfolding IsStrictlySortedBy
rising_all [] each = tt
rising_all (zone ∷ zones) each =
    let rest = rising_all zones (λ k d within. each (suc k) d (omega (arith, within))) in
    (first_less zone zones rest (λ d within. each 0 d (omega (arith, within))), rest)

not_less : (zone other : ZoneBounds) → compare zone other ≡ Less → zone ≡ other → ⊥
not_less zone other less same =
    let own : compare zone zone ≡ Less =
    ap (λ (z : ZoneBounds). compare zone z) same ∙ less in
    let turned = compare_total.antisymm zone zone in
    let e : Less ≡ Greater = sym own ∙ (turned ∙ ap ordering_reverse own) in
    absurd (cc)

turned : (zone other : ZoneBounds) → compare zone other ≡ Less
    → is_lt (compare other zone) ≡ false
turned zone other less = ap is_lt (compare_total.antisymm _ zone ∙ ap ordering_reverse less)

neighbours : (zones : List ZoneBounds) → IsStrictlySortedBy compare zones → (k : ℕ)
    (d : ZoneBounds) → suc k < length zones
    → is_lt (compare (get_or zones (suc k) d) (get_or zones k d)) ≡ false
unfolding IsStrictlySortedBy
neighbours [] sorted k d within = absurd (omega (arith, within))
neighbours (zone ∷ zones) sorted zero d within =
    search (rules, turned, All-get_or, All-from_recursion)
neighbours (zone ∷ zones) sorted (suc k) d within =
    neighbours zones sorted.1 k d (omega (arith, within))

pub rising_again : (zones : List ZoneBounds) → IsStrictlySortedBy compare zones
    → IsSortedByKey line_key (slice_cmp int_cmp) zones
rising_again zones sorted = λ k d low within.
    let next : suc k ≡ k + 1 = omega arith in
    subst (λ (j : ℕ). is_lt (compare (get_or zones j d) (get_or zones k d)) ≡ false) next
    (neighbours zones sorted k d (omega (arith, within)))

apart_from : (zone : ZoneBounds) (others : List ZoneBounds)
    → AllByRecursion (λ (other : ZoneBounds). compare zone other ≡ Less) others
    → ((other : ZoneBounds) → Contains others other → (zone ≡ other → ⊥) → AreApart zone other)
    → IsApartFrom zone others
unfolding IsApartFrom
apart_from zone [] less apart = tt
apart_from zone (other ∷ others) less apart = (
  apart other (0, omega arith, refl) (not_less zone other less.0),
  apart_from zone others less.1 (λ z has. apart z (suc has.0, omega (arith, has.1), has.2)),
)

-- Of the list each two are apart, where each two that differ are.
pub apart_again : (zones : List ZoneBounds) → IsStrictlySortedBy compare zones
    → ((one other : ZoneBounds) → Contains zones one → Contains zones other
    → (one ≡ other → ⊥) → AreApart one other) → IsApart zones
unfolding IsStrictlySortedBy IsApart
apart_again [] sorted apart = tt
apart_again (zone ∷ zones) sorted apart = (
  apart_from zone zones sorted.0
      (λ other has. apart zone other (0, omega arith, refl)
      (suc has.0, omega (arith, has.1), has.2)),
  apart_again zones sorted.1 (λ one other has has'.
      apart one other (suc has.0, omega (arith, has.1), has.2)
      (suc has'.0, omega (arith, has'.1), has'.2)),
)

-- The list is tight, where each of it is.
pub tight_again : (zones : List ZoneBounds)
    → ((zone : ZoneBounds) → Contains zones zone → HoldsSome zone × IsTight zone) → AreTight zones
unfolding AreTight
tight_again [] each = tt
tight_again (zone ∷ zones) each = (
  each zone (0, omega arith, refl),
  tight_again zones (λ other has. each other (suc has.0, omega (arith, has.1), has.2)),
)

-- ---- one list of the same members

cons_cases : (zone : ZoneBounds) (zones : List ZoneBounds) (other : ZoneBounds)
    → Contains (zone ∷ zones) other → (zone ≡ other) ⊎ Contains zones other
cons_cases zone zones other (zero, below, is) = inl is
cons_cases zone zones other (suc k, below, is) = inr (k, omega (arith, below), is)

less_than : (zone : ZoneBounds) (zones : List ZoneBounds) (other : ZoneBounds)
    → AllByRecursion (λ (z : ZoneBounds). compare zone z ≡ Less) zones → Contains zones other
    → compare zone other ≡ Less
less_than zone zones other less has = search (rules, All-contains, All-from_recursion)

both_less : (zone other : ZoneBounds) → compare zone other ≡ Less → compare other zone ≡ Less → ⊥
both_less zone other less more =
    true≢false (sym (ap is_lt more) ∙ turned zone other less)

same_sorted : (one other : List ZoneBounds) → IsStrictlySortedBy compare one
    → IsStrictlySortedBy compare other
    → ((zone : ZoneBounds) → Contains one zone ↔ Contains other zone) → one ≡ other
unfolding IsStrictlySortedBy
same_sorted [] [] sorted sorted' same = refl
same_sorted [] (y ∷ ys) sorted sorted' same =
    let has = (same y).1 (0, omega arith, refl) in absurd (omega (arith, has.1))
same_sorted (x ∷ xs) [] sorted sorted' same =
    let has = (same x).0 (0, omega arith, refl) in absurd (omega (arith, has.1))
same_sorted (x ∷ xs) (y ∷ ys) sorted sorted' same =
    let first : x ≡ y = ⊎_elim (λ e. sym e)
    (λ behind. ⊎_elim (λ e. e)
    (λ behind'. absurd (both_less x y (less_than x xs y sorted.0 behind')
    (less_than y ys x sorted'.0 behind)))
    (cons_cases x xs y ((same y).1 (0, omega arith, refl))))
    (cons_cases y ys x ((same x).0 (0, omega arith, refl))) in
    let rest : xs ≡ ys = same_sorted xs ys sorted.1 sorted'.1 (λ zone. (
      (λ has. ⊎_elim
          (λ e. absurd (not_less x zone (less_than x xs zone sorted.0 has) (first ∙ e)))
          (λ inside. inside)
          (cons_cases y ys zone ((same zone).0 (suc has.0, omega (arith, has.1), has.2)))),
      (λ has. ⊎_elim
          (λ e. absurd (not_less y zone (less_than y ys zone sorted'.0 has) (sym first ∙ e)))
          (λ inside. inside)
          (cons_cases x xs zone ((same zone).1 (suc has.0, omega (arith, has.1), has.2)))),
    )) in
    λ i. first i ∷ rest i

-- ---- from the definition alone

strictly_from : (zone other : ZoneBounds) (o : Ordering) → compare zone other ≡ o
    → is_lt (compare other zone) ≡ false → (zone ≡ other → ⊥) → compare zone other ≡ Less
strictly_from zone other Less e later differs = e
strictly_from zone other Equal e later differs =
    absurd (differs (same_lines zone other
    (ties zone other ∙ ap (λ (o : Ordering). is_eq o) e)))
strictly_from zone other Greater e later differs = search (rules, compare_total)

strictly_all : (zone : ZoneBounds) (zones : List ZoneBounds)
    → ((k : ℕ) → k < length zones → is_lt (compare (get_or zones k zone) zone) ≡ false)
    → IsApartFrom zone zones
    → AllByRecursion (λ (z : ZoneBounds). compare zone z ≡ Less) zones
unfolding IsApartFrom
strictly_all zone [] later apart = tt
strictly_all zone (other ∷ zones) later apart = (
  strictly_from zone other (compare zone other) refl (later 0 (omega arith))
      (λ same. apart.0.left (subst (Includes zone) same
      (record { every = λ a b n some le h. h }))),
  strictly_all zone zones (λ k below. later (suc k) (omega (arith, below))) apart.1,
)

strictly_rest : (zones : List ZoneBounds)
    → ((i j : ℕ) (d : ZoneBounds) → i < j → j < length zones
    → is_lt (compare (get_or zones j d) (get_or zones i d)) ≡ false) → IsApart zones
    → IsStrictlySortedBy compare zones
unfolding IsStrictlySortedBy IsApart
strictly_rest [] far apart = tt
strictly_rest (zone ∷ zones) far apart = (
  strictly_all zone zones
      (λ k below. far 0 (suc k) zone (omega arith) (omega (arith, below))) apart.0,
  strictly_rest zones
      (λ i j d less below. far (suc i) (suc j) d (omega (arith, less)) (omega (arith, below)))
      apart.1,
)

strictly_again : (zones : List ZoneBounds)
    → IsSortedByKey line_key (slice_cmp int_cmp) zones → IsApart zones
    → IsStrictlySortedBy compare zones
strictly_again zones rising apart =
    strictly_rest zones (λ i j d less below.
    sorted_far _ (ranks_by compare_total (λ a. a)) zones rising i j d (omega arith) below) apart

-- Lists of the same zones are one list.
pub same_listed : (zones others : List ZoneBounds) → AreListed zones → AreListed others
    → ((zone : ZoneBounds) → Contains zones zone ↔ Contains others zone) → zones ≡ others
same_listed zones others listed listed' =
    search (rules, same_sorted, strictly_again, listed.rising, listed'.rising)
