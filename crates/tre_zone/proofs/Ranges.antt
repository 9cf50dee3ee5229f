-- A canonical zone holds the pairs whose begin, end and duration lie in its three ranges.
use Rattle.std.proofs.Common.{◌≡◌, ◌==◌, ℕ, zero, suc, ◌+◌, ◌-◌, ◌*◌, ◌<◌, ◌≤◌, ◌↔◌, MatchBool, refl, arith, ℤ, pos, negsuc, neg_ℤ, nat_abs, ◌≤ℤ◌}
use Rattle.std.proofs.lemmas.Int.{ints}
use Rattle.tre_zone.specs.Bound.{value_of, weakness_of, sum_of, Meets}
use Rattle.tre_zone.specs.Interval.{IsAboveLow, IsBelowHigh}
use Rattle.tre_zone.specs.Ranges.{range_of, IsInRanges}
use Rattle.tre_zone.specs.Zone.{ZoneHolds, IsCanonical}
use Rattle.tre_zone.specs.declared.zone_bounds.ZoneBounds.{ZoneBounds}
use Rattle.tre_zone.proofs.Bounds.{split, split-sum, Meets-at_most, Meets-less}
use Rattle.tre_zone.proofs.Ends.{weak_low, strict_low}
use Rattle.tre_zone.proofs.Scaling.{canonical-frame}

-- A value that is at most 0 is the negative of its size.
pub below_zero : (value : ℤ) → value ≤ℤ pos 0 → value ≡ neg_ℤ (pos (nat_abs value))
below_zero (pos zero) le = refl
below_zero (pos (suc n)) le = absurd (omega (arith, ints))
below_zero (negsuc n) le = refl

pub above_zero : (value : ℤ) → pos 0 ≤ℤ value → value ≡ pos (nat_abs value)
above_zero (pos n) le = refl
above_zero (negsuc n) le = absurd (omega (arith, ints))

-- ---- a bound as an end of a range, of a difference d

low_end : (low : ℤ) (weakness : ℕ) → weakness_of low ≡ weakness → low ≤ℤ pos 1
    → (p q n d : ℕ) → q ≡ p + d
    → Meets low p q n ↔ MatchBool (weakness == 1) (nat_abs (value_of low) * n ≤ d)
    (nat_abs (value_of low) * n < d)
low_end low zero e down p q n d is =
    let s = split low in
    let value = below_zero (value_of low) (omega (arith, ints)) in
    let both = strict_low low (nat_abs (value_of low)) (omega (arith, ints)) p q n (omega arith) in
    ((λ m. let h = both.0 m in omega arith), (λ h. both.1 (omega arith)))
low_end low (suc zero) e down p q n d is =
    let s = split low in
    let value = below_zero (value_of low) (omega (arith, ints)) in
    let both = weak_low low (nat_abs (value_of low)) (omega (arith, ints)) p q n (omega arith) in
    ((λ m. let h = both.0 m in omega arith), (λ h. both.1 (omega arith)))
low_end low (suc (suc w)) e down p q n d is = let s = split low in absurd (omega arith)

high_end : (high : ℤ) (weakness : ℕ) → weakness_of high ≡ weakness → pos 1 ≤ℤ high
    → (p q n d : ℕ) → p ≡ q + d
    → Meets high p q n ↔ MatchBool (weakness == 1) (d ≤ nat_abs (value_of high) * n)
    (d < nat_abs (value_of high) * n)
high_end high zero e up p q n d is =
    let s = split high in
    let value = above_zero (value_of high) (omega (arith, ints)) in
    let both = Meets-less high (nat_abs (value_of high)) (omega (arith, ints)) p q n in
    ((λ m. let h = both.0 m in omega arith), (λ h. both.1 (omega arith)))
high_end high (suc zero) e up p q n d is =
    let s = split high in
    let value = above_zero (value_of high) (omega (arith, ints)) in
    let both = Meets-at_most high (nat_abs (value_of high)) (omega (arith, ints)) p q n in
    ((λ m. let h = both.0 m in omega arith), (λ h. both.1 (omega arith)))
high_end high (suc (suc w)) e up p q n d is = let s = split high in absurd (omega arith)

pub above : (low high : ℤ) → low ≤ℤ pos 1 → (p q n d : ℕ) → q ≡ p + d
    → Meets low p q n ↔ IsAboveLow (range_of low high) d n
above low high down p q n d is = low_end low (weakness_of low) refl down p q n d is

pub below : (low high : ℤ) → pos 1 ≤ℤ high → (p q n d : ℕ) → p ≡ q + d
    → Meets high p q n ↔ IsBelowHigh (range_of low high) d n
below low high up p q n d is = high_end high (weakness_of high) refl up p q n d is

-- ---- the keys of canonical bounds

-- Where the low bound is at most 0, the high one is at least 0.
pub raised : (low high : ℤ) → pos 1 ≤ℤ sum_of low high → low ≤ℤ pos 1 → pos 1 ≤ℤ high
raised low high loop down =
    let a = split low in let b = split high in let d = split-sum low high in omega (arith, ints)

pub lowered : (key left right : ℤ) → key ≤ℤ sum_of left right → left ≤ℤ pos 1 → right ≤ℤ pos 1
    → key ≤ℤ pos 1
lowered key left right le p q =
    let a = split left in let b = split right in let d = split-sum left right in
    omega (arith, ints)

pub canonical-ranges : (zone : ZoneBounds) → IsCanonical zone → (a b n : ℕ) → 0 < n
    → ZoneHolds zone a b n ↔ IsInRanges zone a b n
canonical-ranges z c a b n some =
    let starts = c.framed.starts in
    let lasts = c.framed.lasts in
    let ends = lowered z.end_low z.begin_low z.dur_low c.closed.end_low starts lasts in
    let begin_up = raised z.begin_low z.begin_high c.room.begin_loop starts in
    let end_up = raised z.end_low z.end_high c.room.end_loop ends in
    let dur_up = raised z.dur_low z.dur_high c.room.dur_loop lasts in
    let begin_low = above z.begin_low z.begin_high starts 0 a n a (omega arith) in
    let begin_high = below z.begin_low z.begin_high begin_up a 0 n a (omega arith) in
    let end_low = above z.end_low z.end_high ends 0 b n b (omega arith) in
    let end_high = below z.end_low z.end_high end_up b 0 n b (omega arith) in
    let dur_low = λ (le : a ≤ b).
    above z.dur_low z.dur_high lasts a b n (b - a) (omega arith) in
    let dur_high = λ (le : a ≤ b).
    below z.dur_low z.dur_high dur_up b a n (b - a) (omega arith) in (
      (λ h.
          let rising = (canonical-frame z c a b n some h).rising in
          record {
            rising = rising;
            begin = (begin_low.0 h.begin_low, begin_high.0 h.begin_high);
            end = (end_low.0 h.end_low, end_high.0 h.end_high);
            duration = ((dur_low rising).0 h.dur_low, (dur_high rising).0 h.dur_high);
          }),
      (λ r. record {
        begin_low = begin_low.1 r.begin.0;
        begin_high = begin_high.1 r.begin.1;
        end_low = end_low.1 r.end.0;
        end_high = end_high.1 r.end.1;
        dur_low = (dur_low r.rising).1 r.duration.0;
        dur_high = (dur_high r.rising).1 r.duration.1;
      }),
    )
