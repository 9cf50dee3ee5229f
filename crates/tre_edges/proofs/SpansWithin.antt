-- The stretches of a run that last so long, as one zone.
use Rattle.std.proofs.Common.{◌≡◌, ℕ, ◌+◌, ◌-◌, ◌*◌, ◌<◌, ◌≤◌, ◌↔◌, arith, ℤ, pos, ◌-ℤ◌, ◌≤ℤ◌, ap, rules}
use Rattle.std.proofs.lemmas.Int.{ints}
use Rattle.tre_pairs.specs.Pairs.{Lasting}
use Rattle.tre_pairs.specs.declared.TheConstants.{TIME_MAX}
use Rattle.tre_zone.specs.Bound.{Meets, sum_of}
use Rattle.tre_zone.specs.Interval.{IntervalEnds, IsAboveLow, IsBelowHigh, LastsWithin}
use Rattle.tre_zone.specs.Zone.{IsCanonical, IsInSpan, HasNoPair, IsZoneOf}
use Rattle.tre_zone.specs.declared.zone_bounds.ZoneBounds.{ZoneBounds}
use Rattle.tre_zone.proofs.Bounds.{split, split-sum, value_of-sum_of, weakness_of-sum_of, Meets-at_least, Meets-at_most, Meets-more}
use Rattle.tre_zone.proofs.Paths.{Meets-sum, Meets-loop}

-- A stretch is no instant, and lasts no longer than its run: beside what an end says.
pub no_instant : (key : ℤ) → key ≡ pos 0 → (p q n : ℕ) (Met End : Type 0)
    → Met ↔ (Meets key p q n × End) → Met ↔ ((p < q) × End)
no_instant key is p q n Met End both =
    let less = Meets-more key 0 is p q n in (
      (λ m. let h = both.0 m in let lt = less.0 h.0 in (omega (arith, lt), h.1)),
      (λ h. both.1 (less.1 (omega (arith, h.0)), h.1)),
    )

pub in_whole : (key : ℤ) (length : ℕ) → key ≡ pos (2 * length + 1) → (p q n : ℕ) → q ≤ p
    → Meets key p q n ↔ (p - q ≤ length * n)
in_whole key length is p q n le = search (rules, Meets-at_most)

pub in_whole_too : (key : ℤ) (length : ℕ) → key ≡ pos (2 * length + 1) → (p q n : ℕ) → q ≤ p
    → (Met End : Type 0) → Met ↔ (Meets key p q n × End) → Met ↔ ((p - q ≤ length * n) × End)
in_whole_too key length is p q n le Met End both = search (rules, in_whole, both.0, both.1)

-- The bounds of a run, of which the durations are bounded so.
abbrev pub cut_of : ℤ → ℤ → ℤ → ℤ → ZoneBounds
cut_of from to low high = record {
  begin_low = from;
  begin_high = sum_of low to;
  end_low = sum_of from low;
  end_high = to;
  dur_low = low;
  dur_high = high;
}

pub cut-canonical : (begin end : ℕ) (from to low high : ℤ) → end ≤ TIME_MAX
    → from ≡ pos 1 -ℤ pos (2 * begin) → to ≡ pos (2 * end + 1) → low ≤ℤ pos 0
    → high ≤ℤ pos (2 * (end - begin) + 1) → begin < end → pos 1 ≤ℤ sum_of low high
    → IsCanonical (cut_of from to low high)
cut-canonical begin end from to low high limit from_is to_is least most rising room =
    let f = split from in
    let t = split to in
    let l = split low in
    let h = split high in
    let last = split-sum low to in
    let first = split-sum from low in
    let last_value = value_of-sum_of low to in
    let last_weak = weakness_of-sum_of low to in
    let first_value = value_of-sum_of from low in
    let first_weak = weakness_of-sum_of from low in
    let lasts = split-sum low high in
    let begins = split-sum from (sum_of low to) in
    let ends = split-sum (sum_of from low) to in
    let a = split-sum (sum_of from low) high in
    let b = split-sum high (sum_of low to) in
    let c = split-sum (sum_of low to) (sum_of from low) in
    let d = split-sum to from in
    record {
      room = record {
        begin_loop = omega (arith, ints);
        end_loop = omega (arith, ints);
        dur_loop = room;
      };
      closed = record {
        begin_low = omega (arith, ints);
        begin_high = omega (arith, ints);
        end_low = omega (arith, ints);
        end_high = omega (arith, ints);
        dur_low = omega (arith, ints);
        dur_high = omega (arith, ints);
      };
      framed = record {
        starts = omega (arith, ints);
        ends = omega (arith, ints);
        lasts = omega (arith, ints);
      };
    }

whole : (end begin : ℕ) → begin < end → (end - begin) + begin ≡ end
whole end begin rising = omega arith

module _ (begin end : ℕ) (from to low high : ℤ) (ends : IntervalEnds)
    (from_is : from ≡ pos 1 -ℤ pos (2 * begin)) (to_is : to ≡ pos (2 * end + 1))
    (rising : begin < end)
    (above : (p q n : ℕ) → 0 < n → p ≤ q
    → Meets low p q n ↔ ((p < q) × IsAboveLow ends (q - p) n))
    (below : (p q n : ℕ) → 0 < n → q ≤ p
    → Meets high p q n ↔ ((p - q ≤ (end - begin) * n) × IsBelowHigh ends (p - q) n)) where
  -- A stretch in a run lasts no longer than it.
  no_longer : (a b n : ℕ) → IsInSpan begin end a b n → b - a ≤ (end - begin) * n
  no_longer a b n span =
      let width : (end - begin) * n + begin * n ≡ end * n =
      omega (arith, ap (λ (t : ℕ). t * n) (whole end begin rising)) in
      omega (arith, width, span.starts, span.ends)

  pub cut-exact : IsZoneOf (cut_of from to low high)
      (Lasting (LastsWithin ends) (IsInSpan begin end))
  cut-exact = record {
    exact = λ a b n some le.
        let starts = Meets-at_least from begin from_is 0 a n in
        let stops = Meets-at_most to end to_is b 0 n in
        let least = above a b n some le in
        let most = below b a n some le in (
          (λ h.
              let lasts = least.0 h.dur_low in
              let early = starts.0 h.begin_low in
              let late = stops.0 h.end_high in
              record {
                related = record {
                  starts = omega (arith, early);
                  lasts = lasts.0;
                  ends = omega (arith, late);
                };
                admitted = (lasts.1, (most.0 h.dur_high).1);
              }),
          (λ h.
              let span = h.related in
              let early = starts.1 (omega (arith, span.starts)) in
              let late = stops.1 (omega (arith, span.ends)) in
              let lasts = least.1 (span.lasts, h.admitted.0) in
              record {
                begin_low = early;
                begin_high = Meets-sum low to a b 0 n lasts late;
                end_low = Meets-sum from low 0 a b n early lasts;
                end_high = late;
                dur_low = lasts;
                dur_high = most.1 (no_longer a b n span, h.admitted.1);
              }),
        );
  }

  -- Where the two bounds leave no room, no stretch lasts so long.
  pub cut-never : (pos 1 ≤ℤ sum_of low high → ⊥)
      → HasNoPair (Lasting (LastsWithin ends) (IsInSpan begin end))
  cut-never none = record {
    never = λ a b n some le h. none (Meets-loop (sum_of low high) a n some
        (Meets-sum low high a b a n
        ((above a b n some le).1 (h.related.lasts, h.admitted.0))
        ((below b a n some le).1 (no_longer a b n h.related, h.admitted.1))));
  }
