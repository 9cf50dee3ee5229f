-- What a zone holds does not depend on the denominator that a pair is written over; and where its
-- pairs lie.
use Rattle.std.proofs.lemmas.Bool.{cases_lt}
use Rattle.std.proofs.Common.{◌≡◌, ℕ, zero, suc, ◌+◌, ◌*◌, ◌<◌, ◌≤◌, ◌↔◌, List, [], ◌∷◌, inl, inr, ⊎_elim, refl, arith, ℤ, pos}
use Rattle.std.proofs.lemmas.Int.{ints}
use Rattle.std.proofs.Math.Nat.{mul-le-mul_left}
use borrow.Author.Differences.{up, down}
use Rattle.tre_pairs.specs.declared.TheConstants.{TIME_MAX}
use Rattle.tre_zone.specs.Bound.{value_of, weakness_of, Meets}
use Rattle.tre_zone.specs.Zone.{ZoneHolds, IsCanonical, IsInFrame}
use Rattle.tre_zone.specs.ZoneList.{SetHolds, AreCanonical}
use Rattle.tre_zone.specs.declared.zone_bounds.ZoneBounds.{ZoneBounds}
use Rattle.tre_zone.proofs.Bounds.{split, Meets-at_most}
use Rattle.tre_zone.proofs.Paths.{Meets-looser}

-- A bound whose value is x - y, over naturals: p + y * n < q + x * n + weakness.
grows : (weakness k p q n x y : ℕ) → 0 < k → weakness ≤ 1 → p + y * n < q + x * n + weakness
    → k * p + y * (k * n) < k * q + x * (k * n) + weakness
grows zero k p q n x y some small lt =
    let le : k * (p + y * n + 1) ≤ k * (q + x * n) = mul-le-mul_left k (omega arith) in
    omega arith
grows (suc zero) k p q n x y some small lt =
    let le : k * (p + y * n) ≤ k * (q + x * n) = mul-le-mul_left k (omega arith) in
    omega arith
grows (suc (suc w)) k p q n x y some small lt = absurd (omega arith)

shrinks : (weakness k p q n x y : ℕ) → 0 < k → weakness ≤ 1
    → k * p + y * (k * n) < k * q + x * (k * n) + weakness
    → p + y * n < q + x * n + weakness
shrinks zero k p q n x y some small lt =
    ⊎_elim (λ h. h)
    (λ h.
    let le : k * (q + x * n) ≤ k * (p + y * n) = mul-le-mul_left k (omega arith) in
    absurd (omega arith))
    (cases_lt (p + y * n) (q + x * n + zero))
shrinks (suc zero) k p q n x y some small lt =
    ⊎_elim (λ h. h)
    (λ h.
    let le : k * (q + x * n + 1) ≤ k * (p + y * n) = mul-le-mul_left k (omega arith) in
    absurd (omega arith))
    (cases_lt (p + y * n) (q + x * n + suc zero))
shrinks (suc (suc w)) k p q n x y some small lt = absurd (omega arith)

pub Meets-scale : (key : ℤ) (k p q n : ℕ) → 0 < k
    → Meets key p q n ↔ Meets key (k * p) (k * q) (k * n)
Meets-scale key k p q n some =
    let s = split key in (
      (λ m.
          let met = m.met in
          let h = grows (weakness_of key) k p q n (up (value_of key))
          (down (value_of key)) some s.small (omega (arith, ints)) in
          record { met = omega (arith, ints) }),
      (λ m.
          let met = m.met in
          let h = shrinks (weakness_of key) k p q n (up (value_of key))
          (down (value_of key)) some s.small (omega (arith, ints)) in
          record { met = omega (arith, ints) }),
    )

zero_times : (k : ℕ) → k * 0 ≡ 0
zero_times k = omega arith

pub ZoneHolds-scale : (zone : ZoneBounds) (k a b n : ℕ) → 0 < k
    → ZoneHolds zone a b n ↔ ZoneHolds zone (k * a) (k * b) (k * n)
ZoneHolds-scale zone k a b n some =
    let from_zero = λ (key : ℤ) (q : ℕ). rw (zero_times k) at (Meets-scale key k 0 q n some) in
    let to_zero = λ (key : ℤ) (p : ℕ). rw (zero_times k) at (Meets-scale key k p 0 n some) in (
      (λ h. record {
        begin_low = (from_zero zone.begin_low a).0 h.begin_low;
        begin_high = (to_zero zone.begin_high a).0 h.begin_high;
        end_low = (from_zero zone.end_low b).0 h.end_low;
        end_high = (to_zero zone.end_high b).0 h.end_high;
        dur_low = (Meets-scale zone.dur_low k a b n some).0 h.dur_low;
        dur_high = (Meets-scale zone.dur_high k b a n some).0 h.dur_high;
      }),
      (λ h. record {
        begin_low = (from_zero zone.begin_low a).1 h.begin_low;
        begin_high = (to_zero zone.begin_high a).1 h.begin_high;
        end_low = (from_zero zone.end_low b).1 h.end_low;
        end_high = (to_zero zone.end_high b).1 h.end_high;
        dur_low = (Meets-scale zone.dur_low k a b n some).1 h.dur_low;
        dur_high = (Meets-scale zone.dur_high k b a n some).1 h.dur_high;
      }),
    )

pub SetHolds-scale : (zones : List ZoneBounds) (k a b n : ℕ) → 0 < k
    → SetHolds zones a b n ↔ SetHolds zones (k * a) (k * b) (k * n)
unfolding SetHolds
SetHolds-scale [] k a b n some = ((λ h. h), (λ h. h))
SetHolds-scale (zone ∷ zones) k a b n some =
    let one = ZoneHolds-scale zone k a b n some in
    let rest = SetHolds-scale zones k a b n some in (
      (λ h. ⊎_elim (λ x. inl (one.0 x)) (λ x. inr (rest.0 x)) h),
      (λ h. ⊎_elim (λ x. inl (one.1 x)) (λ x. inr (rest.1 x)) h),
    )

-- Each pair of a canonical zone lies in the frame.
pub canonical-frame : (zone : ZoneBounds) → IsCanonical zone → (a b n : ℕ) → 0 < n
    → ZoneHolds zone a b n → IsInFrame (TIME_MAX) a b n
canonical-frame zone c a b n some h =
    let lasts = (Meets-at_most (pos 1) 0 refl a b n).0
    (Meets-looser zone.dur_low (pos 1) a b n some c.framed.lasts h.dur_low) in
    let ends = (Meets-at_most (pos (2 * TIME_MAX + 1)) (TIME_MAX) refl b 0 n).0
    (Meets-looser zone.end_high (pos (2 * TIME_MAX + 1)) b 0 n some c.framed.ends h.end_high) in
    record { rising = omega arith; ends = omega arith }

-- The pairs of a list of zones are ordered.
pub SetHolds-rising : (zones : List ZoneBounds) → AreCanonical zones → (a b n : ℕ) → 0 < n
    → SetHolds zones a b n → a ≤ b
unfolding SetHolds AreCanonical
SetHolds-rising [] all a b n some h = absurd h
SetHolds-rising (zone ∷ zones) all a b n some h =
    ⊎_elim (λ x. (canonical-frame zone all.0 a b n some x).rising)
    (λ x. SetHolds-rising zones all.1 a b n some x) h
