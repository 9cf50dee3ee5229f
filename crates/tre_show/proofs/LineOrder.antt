-- The six numbers of a line order it as its three ranges do.
use Rattle.std.proofs.Common.{◌≡◌, ℕ, ◌*◌, ◌+◌, ◌<◌, ◌≤◌, ◌==◌, ◌⊎◌, true, false, List, [], ◌∷◌, refl, ap, subst, arith, inl, inr, ⊎_elim, ℤ, pos, negsuc, neg_ℤ, ◌≤ℤ◌, nat_abs, rules}
use Rattle.std.specs.Prelude.{◌<ℤ◌}
use Rattle.std.specs.Ordering.{int_cmp}
use Rattle.std.specs.declared.cmp.Ordering.TheVariants.{Less, Equal}
use Rattle.std.specs.Cmp.Lexicographic.{slice_cmp}
use Rattle.std.proofs.lemmas.Int.{ints}
use Rattle.tre_zone.specs.Bound.{value_of, weakness_of}
use Rattle.tre_zone.specs.Ranges.{range_of}
use Rattle.tre_zone.specs.Zone.{IsCanonical}
use Rattle.tre_zone.specs.declared.zone_bounds.ZoneBounds.{ZoneBounds}
use Rattle.tre_zone.proofs.Bounds.{split}
use Rattle.tre_show.specs.Order.{sort_key, LowComesBefore, HighComesBefore, RangeComesBefore, LineComesBefore}
use Rattle.tre_show.proofs.Ranges.{AreRangeKeys}
use Rattle.tre_show.proofs.Printing.{begin_keys, end_keys, dur_keys}

-- The first of two numbers decides, or where they are the same what follows.
first_decides : (x y : ℤ) (xs ys : List ℤ) → slice_cmp int_cmp (x ∷ xs) (y ∷ ys) ≡ Less →
    (x <ℤ y) ⊎ ((x ≡ y) × (slice_cmp int_cmp xs ys ≡ Less))
first_decides x y xs ys e = search rules

-- A value that is at most 0 is its size, negated.
size_down : (value : ℤ) → value ≤ℤ pos 0 → neg_ℤ value ≡ pos (nat_abs value)
size_down (pos n) p = omega (arith, ints)
size_down (negsuc n) p = omega (arith, ints)

size_up : (value : ℤ) → pos 0 ≤ℤ value → value ≡ pos (nat_abs value)
size_up (pos n) p = refl
size_up (negsuc n) p = absurd (omega (arith, ints))

same_test : (m n : ℕ) → m ≡ n → (m == 1) ≡ (n == 1)
same_test m n e = ap (λ k. k == 1) e

-- Twice a number and a weakness, taken away or added.
low_by : (a b u v : ℕ) → u ≤ 1 → v ≤ 1 → 2 * a + v < 2 * b + u
    → (a < b) ⊎ ((a ≡ b) × ((u == 1) ≡ true) × ((v == 1) ≡ false))
low_by a b u v p q h = search rules

high_by : (a b u v : ℕ) → u ≤ 1 → v ≤ 1 → 2 * a + u < 2 * b + v
    → (a < b) ⊎ ((a ≡ b) × ((u == 1) ≡ false) × ((v == 1) ≡ true))
high_by a b u v p q h = search rules

low_before : (low high low' high' : ℤ) → low ≤ℤ pos 1 → low' ≤ℤ pos 1 → neg_ℤ low <ℤ neg_ℤ low'
    → LowComesBefore (range_of low high) (range_of low' high')
low_before low high low' high' p q h =
    let own = split low in
    let its = split low' in
    let size = size_down (value_of low) (omega (arith, ints)) in
    let size' = size_down (value_of low') (omega (arith, ints)) in
    low_by (nat_abs (value_of low)) (nat_abs (value_of low')) (weakness_of low) (weakness_of low')
    own.small its.small (omega (arith, ints))

high_before : (low high low' high' : ℤ) → pos 0 ≤ℤ high → pos 0 ≤ℤ high' → high <ℤ high'
    → HighComesBefore (range_of low high) (range_of low' high')
high_before low high low' high' p q h = λ n m e f.
    let own = split high in
    let its = split high' in
    let size = size_up (value_of high) (omega (arith, ints)) in
    let size' = size_up (value_of high') (omega (arith, ints)) in
    let one : nat_abs (value_of high) ≡ n = cc in
    let other : nat_abs (value_of high') ≡ m = cc in
    let P = λ (k : ℕ). (k < m) ⊎ ((k ≡ m) × ((weakness_of high == 1) ≡ false)
    × ((weakness_of high' == 1) ≡ true)) in
    let Q = λ (k : ℕ). (nat_abs (value_of high) < k) ⊎
    ((nat_abs (value_of high) ≡ k) × ((weakness_of high == 1) ≡ false)
    × ((weakness_of high' == 1) ≡ true)) in
    subst P one (subst Q other
    (high_by (nat_abs (value_of high)) (nat_abs (value_of high')) (weakness_of high)
    (weakness_of high') own.small its.small (omega (arith, ints))))

-- The two numbers of a range, and then those behind it.
range_decides : (low high low' high' : ℤ) (xs ys : List ℤ) → AreRangeKeys low high
    → AreRangeKeys low' high' →
    slice_cmp int_cmp (neg_ℤ low ∷ high ∷ xs) (neg_ℤ low' ∷ high' ∷ ys) ≡ Less →
    RangeComesBefore (range_of low high) (range_of low' high') ⊎
    ((range_of low high ≡ range_of low' high') × (slice_cmp int_cmp xs ys ≡ Less))
range_decides low high low' high' xs ys keys keys' e =
    ⊎_elim (λ less. inl (inl (low_before low high low' high' keys.down keys'.down less)))
    (λ same.
    let low_same : low ≡ low' = omega (arith, ints, same.0) in
    ⊎_elim (λ less. inl (inr (
      ap (λ k. nat_abs (value_of k)) low_same,
      ap (λ k. weakness_of k == 1)
          low_same,
      high_before low high low' high' keys.up keys'.up less,
    )))
    (λ both. inr (
      subst (λ k. range_of low high ≡ range_of k high') low_same
          (ap (λ k. range_of low k) both.0),
      both.1,
    ))
    (first_decides high high' xs ys same.1))
    (first_decides (neg_ℤ low) (neg_ℤ low') (high ∷ xs) (high' ∷ ys) e)

-- The numbers of a line from its end on, and from its duration on.
abbrev lasts_of : ZoneBounds → List ℤ
lasts_of zone = neg_ℤ zone.dur_low ∷ zone.dur_high ∷ []

abbrev ends_of : ZoneBounds → List ℤ
ends_of zone = neg_ℤ zone.end_low ∷ zone.end_high ∷ lasts_of zone

pub line_before : (zone other : ZoneBounds) → IsCanonical zone → IsCanonical other
    → slice_cmp int_cmp (sort_key zone) (sort_key other) ≡ Less → LineComesBefore zone other
line_before zone other canonical canonical' e =
    ⊎_elim (λ begins. inl begins)
    (λ begin. ⊎_elim (λ ends. inr (inl (begin.0, ends)))
    (λ end. ⊎_elim (λ lasts. inr (inr (begin.0, end.0, lasts)))
    (λ none. let q : Equal ≡ Less = none.1 in absurd (cc))
    (range_decides zone.dur_low zone.dur_high other.dur_low other.dur_high [] []
    (dur_keys zone canonical) (dur_keys other canonical') end.1))
    (range_decides zone.end_low zone.end_high other.end_low other.end_high (lasts_of zone)
    (lasts_of other) (end_keys zone canonical) (end_keys other canonical') begin.1))
    (range_decides zone.begin_low zone.begin_high other.begin_low other.begin_high (ends_of zone)
    (ends_of other) (begin_keys zone canonical) (begin_keys other canonical') e)
