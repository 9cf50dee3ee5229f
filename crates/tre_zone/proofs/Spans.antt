-- The bounds of a span.
use Rattle.std.proofs.Common.{◌≡◌, ℕ, ◌+◌, ◌-◌, ◌*◌, ◌<◌, ◌≤◌, ◌↔◌, refl, ap, arith, pos, ◌-ℤ◌, neg_ℤ}
use Rattle.std.proofs.lemmas.Int.{ints}
use Rattle.tre_pairs.specs.declared.TheConstants.{TIME_MAX}
use Rattle.tre_zone.specs.Zone.{ZoneHolds, IsCanonical, IsInSpan, span_of}
use Rattle.tre_zone.proofs.CanonicalBounds.{bounds-canonical}
use Rattle.tre_zone.proofs.Bounds.{Meets-at_most, Meets-at_least, Meets-less, Meets-more}

pub span-canonical : (begin end : ℕ) → begin < end → end ≤ TIME_MAX
    → IsCanonical (span_of begin end)
unfolding span_of
span-canonical begin end rising limit =
    bounds-canonical begin end (end - begin) (pos (2 * end)) (neg_ℤ (pos (2 * begin)))
    (pos 0) limit (omega arith) (omega (arith, ints)) (omega (arith, ints))
    (omega (arith, ints)) (omega (arith, ints)) (omega (arith, ints)) (omega (arith, ints))

whole : (end begin : ℕ) → begin < end → (end - begin) + begin ≡ end
whole end begin rising = omega arith

pub span-holds : (begin end : ℕ) → begin < end → (a b n : ℕ) → 0 < n
    → ZoneHolds (span_of begin end) a b n ↔ IsInSpan begin end a b n
unfolding span_of
span-holds begin end rising a b n some =
    let begin_low = Meets-at_least (pos 1 -ℤ pos (2 * begin)) begin refl 0 a n in
    let begin_high = Meets-less (pos (2 * end)) end refl a 0 n in
    let end_low = Meets-more (neg_ℤ (pos (2 * begin))) begin refl 0 b n in
    let end_high = Meets-at_most (pos (2 * end + 1)) end refl b 0 n in
    let dur_low = Meets-more (pos 0) 0 refl a b n in
    let dur_high = Meets-at_most (pos (2 * (end - begin) + 1)) (end - begin) refl b a n in
    let width : (end - begin) * n + begin * n ≡ end * n =
    omega (arith, ap (λ (t : ℕ). t * n) (whole end begin rising)) in (
      (λ z.
          let low = begin_low.0 z.begin_low in
          let lasts = dur_low.0 z.dur_low in
          let high = end_high.0 z.end_high in
          record { starts = omega arith; lasts = omega arith; ends = omega arith }),
      (λ s. record {
        begin_low = begin_low.1 (omega arith);
        begin_high = begin_high.1 (omega arith);
        end_low = end_low.1 (omega arith);
        end_high = end_high.1 (omega arith);
        dur_low = dur_low.1 (omega arith);
        dur_high = dur_high.1 (omega arith);
      }),
    )
