-- Lines in rising order: how two are compared, and a list of which each rises above the last.
use Rattle.std.proofs.Common.{◌≡◌, ℕ, ◌+◌, ◌-◌, ◌<◌, ◌≤◌, false, List, [], ◌∷◌, length, get_or, refl, sym, ap, ◌∙◌, arith, ⊎_elim, ℤ, neg_ℤ, rules}
use Rattle.std.specs.Prelude.{◌<ℤ◌, AllPairs}
use Rattle.std.specs.Cmp.Lexicographic.{slice_cmp}
use Rattle.std.specs.Ordering.{int_cmp, is_lt, ordering_then}
use Rattle.std.specs.declared.cmp.Ordering.{Ordering}
use Rattle.std.specs.declared.cmp.Ordering.TheVariants.{Less, Equal, Greater}
use Rattle.std.proofs.lemmas.Bool.{cases_lt}
use Rattle.std.proofs.lemmas.List.{get_or_default}
use Rattle.tre_zone.specs.declared.zone_bounds.ZoneBounds.{ZoneBounds}
use Rattle.tre_show.specs.Order.{IsRising, compare_lines}

-- Numbers that are negated are compared the other way round.
negated : (x y : ℤ) → int_cmp y x ≡ int_cmp (neg_ℤ x) (neg_ℤ y)
negated x y = search rules

-- The bounds of a range decide, and where they are the same what follows.
range_first : (low high low' high' : ℤ) (xs ys : List ℤ) (o : Ordering)
    → o ≡ ordering_then (int_cmp low' low) (int_cmp high high')
    → ordering_then o (slice_cmp int_cmp xs ys)
    ≡ slice_cmp int_cmp (neg_ℤ low ∷ high ∷ xs) (neg_ℤ low' ∷ high' ∷ ys)
range_first low high low' high' xs ys o e = search rules

then_nothing : (o : Ordering) → ordering_then o Equal ≡ o
then_nothing Less = refl
then_nothing Equal = refl
then_nothing Greater = refl

pub then_kept : (o p : Ordering) → (o ≡ Equal → ⊥) → ordering_then o p ≡ o
then_kept Less p not = refl
then_kept Equal p not = absurd (not refl)
then_kept Greater p not = refl

-- How the two bounds of a range compare.
abbrev pub compare_bounds : ℤ → ℤ → ℤ → ℤ → Ordering
compare_bounds low high low' high' = ordering_then (int_cmp low' low) (int_cmp high high')

-- The first range that differs decides.
pub compared : (one other : ZoneBounds) (begins ends lasts : Ordering)
    → begins ≡ compare_bounds one.begin_low one.begin_high other.begin_low other.begin_high
    → ends ≡ compare_bounds one.end_low one.end_high other.end_low other.end_high
    → lasts ≡ compare_bounds one.dur_low one.dur_high other.dur_low other.dur_high
    → ordering_then begins (ordering_then ends lasts) ≡ compare_lines one other
compared one other begins ends lasts e f g =
    let last = sym (then_nothing lasts) ∙ range_first one.dur_low one.dur_high other.dur_low
    other.dur_high [] [] lasts g in
    let rest = ap (λ o. ordering_then ends o) last ∙ range_first one.end_low one.end_high
    other.end_low other.end_high (neg_ℤ one.dur_low ∷ one.dur_high ∷ [])
    (neg_ℤ other.dur_low ∷ other.dur_high ∷ []) ends f in
    ap (λ o. ordering_then begins o) rest ∙ range_first one.begin_low one.begin_high
    other.begin_low other.begin_high
    (neg_ℤ one.end_low ∷ one.end_high ∷ neg_ℤ one.dur_low ∷ one.dur_high ∷ [])
    (neg_ℤ other.end_low ∷ other.end_high ∷ neg_ℤ other.dur_low ∷ other.dur_high ∷ []) begins e

-- The zones up to a place rise, and the next one does not come before the last of them.
pub next_rises : (zones : List ZoneBounds) (place : ℕ) (one other : ZoneBounds)
    → ((k : ℕ) (d : ZoneBounds) → k + 1 < place
    → is_lt (compare_lines (get_or zones (k + 1) d) (get_or zones k d)) ≡ false)
    → place < length zones → one ≡ get_or zones (place - 1) one → other ≡ get_or zones place other
    → is_lt (compare_lines other one) ≡ false
    → (k : ℕ) (d : ZoneBounds) → k + 1 < place + 1
    → is_lt (compare_lines (get_or zones (k + 1) d) (get_or zones k d)) ≡ false
next_rises zones place one other before within is is' less k d below =
    ⊎_elim (λ (lt : k + 1 < place). before k d lt)
    (λ (past : place ≤ k + 1).
    let at : k ≡ place - 1 = omega (arith, past, below) in
    let at' : k + 1 ≡ place = omega (arith, past, below) in
    let first : get_or zones k d ≡ one =
    ap (λ i. get_or zones i d) at
    ∙ (get_or_default zones (place - 1) d one (omega (arith, within)) ∙ sym is) in
    let second : get_or zones (k + 1) d ≡ other =
    ap (λ i. get_or zones i d) at' ∙ (get_or_default zones place d other within ∙ sym is') in
    rw (first, second) less)
    (cases_lt (k + 1) place)

-- Zones each of which begins later than all before it.
first_decides : (x y : ℤ) (xs ys : List ℤ) → y <ℤ x
    → is_lt (slice_cmp int_cmp (x ∷ xs) (y ∷ ys)) ≡ false
first_decides x y xs ys less = search rules

-- the numbers behind the first by which a line is ordered
rest_of : ZoneBounds → List ℤ
rest_of zone =
    zone.begin_high ∷ neg_ℤ zone.end_low ∷ zone.end_high ∷ neg_ℤ zone.dur_low ∷ zone.dur_high ∷ []

begins_later : (one other : ZoneBounds) → one.begin_low <ℤ other.begin_low
    → is_lt (compare_lines one other) ≡ false
unfolding rest_of
begins_later one other late = search rules

pub later_rises : (zones : List ZoneBounds)
    → AllPairs (λ zone later. later.begin_low <ℤ zone.begin_low) zones → IsRising zones
unfolding IsRising
later_rises zones later k d low below = search (rules, begins_later)
