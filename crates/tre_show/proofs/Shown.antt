-- A canonical zone as it is printed has the smallest ranges that its pairs allow.
use Rattle.std.proofs.Common.{◌≡◌, ℕ, ◌+◌, ◌-◌, ◌*◌, ◌<◌, ◌≤◌, ◌↔◌, Bool, true, false, Option, Some, None, MatchBool, MatchOption, refl, arith, ℤ, pos, neg_ℤ, ◌-ℤ◌, ◌≤ℤ◌, rules}
use Rattle.tre_zone.specs.Bound.{Meets}
use Rattle.tre_zone.specs.Interval.{IntervalEnds, LastsWithin, IsAboveLow, IsBelowHigh}
use Rattle.tre_zone.specs.Ranges.{range_of}
use Rattle.tre_show.specs.Shown.{ShownHolds, IsTightShown, shown}
use Rattle.tre_zone.specs.Zone.{ZoneHolds, IsCanonical}
use Rattle.tre_zone.specs.declared.zone_bounds.ZoneBounds.{ZoneBounds}
use Rattle.tre_zone.proofs.Bounds.{Meets-at_most, Meets-less}
use Rattle.tre_zone.proofs.Ends.{weak_low, strict_low}
use Rattle.tre_zone.proofs.Paths.{Meets-looser}
use Rattle.tre_zone.proofs.Ranges.{above, below, raised, lowered, canonical-ranges}
use Rattle.tre_zone.proofs.Tightness.{canonical-tight, canonical-some}

-- ---- an end of a range as a bound

low_key : Bool → ℕ → ℤ
low_key true low = pos 1 -ℤ pos (2 * low)
low_key false low = neg_ℤ (pos (2 * low))

low_means : (weak : Bool) (low p q n d : ℕ) → q ≡ p + d
    → Meets (low_key weak low) p q n ↔ MatchBool weak (low * n ≤ d) (low * n < d)
unfolding low_key
low_means true low p q n d is = search (rules, weak_low, low_key)
low_means false low p q n d is = search (rules, strict_low, low_key)

high_key : Bool → ℕ → ℤ
high_key true high = pos (2 * high + 1)
high_key false high = pos (2 * high)

high_means : (weak : Bool) (high p q n d : ℕ) → p ≡ q + d
    → Meets (high_key weak high) p q n ↔ MatchBool weak (d ≤ high * n) (d < high * n)
unfolding high_key
high_means true high p q n d is = search (rules, Meets-at_most, high_key)
high_means false high p q n d is = search (rules, Meets-less, high_key)

-- ---- one range

module _ (zone : ZoneBounds) (low high : ℤ) (left right time : ℕ → ℕ → ℕ)
    (is : (a b : ℕ) → a ≤ b → right a b ≡ left a b + time a b)
    (down : low ≤ℤ pos 1) (up : pos 1 ≤ℤ high)
    (low_tight : (key : ℤ) → ((a b n : ℕ) → 0 < n → a ≤ b → ZoneHolds zone a b n
    → Meets key (left a b) (right a b) n) → low ≤ℤ key)
    (high_tight : (key : ℤ) → ((a b n : ℕ) → 0 < n → a ≤ b → ZoneHolds zone a b n
    → Meets key (right a b) (left a b) n) → high ≤ℤ key)
    (other : IntervalEnds)
    (each : (a b n : ℕ) → 0 < n → a ≤ b → ZoneHolds zone a b n → LastsWithin other (time a b) n)
    (d n : ℕ) (some : 0 < n) where
  above_other : IsAboveLow (range_of low high) d n → IsAboveLow other d n
  above_other h =
      let key = low_key other.low_weak other.low in
      let tight = low_tight key (λ a b n some le holds.
      (low_means other.low_weak other.low (left a b) (right a b) n (time a b) (is a b le)).1
      (each a b n some le holds).0) in
      let met = (above low high down 0 d n d (omega arith)).1 h in
      (low_means other.low_weak other.low 0 d n d (omega arith)).0
      (Meets-looser low key 0 d n some tight met)

  below_by : (most : Option ℕ) → ((a b n : ℕ) → 0 < n → a ≤ b → ZoneHolds zone a b n
      → MatchOption most (Unit {0}) (λ most. MatchBool other.high_weak (time a b ≤ most * n)
      (time a b < most * n))) → IsBelowHigh (range_of low high) d n
      → MatchOption most (Unit {0}) (λ most. MatchBool other.high_weak (d ≤ most * n)
      (d < most * n))
  below_by None few h = tt
  below_by (Some most) few h =
      let key = high_key other.high_weak most in
      let tight = high_tight key (λ a b n some le holds.
      (high_means other.high_weak most (right a b) (left a b) n (time a b) (is a b le)).1
      (few a b n some le holds)) in
      let met = (below low high up d 0 n d (omega arith)).1 h in
      (high_means other.high_weak most d 0 n d (omega arith)).0
      (Meets-looser high key d 0 n some tight met)

  pub taken_in : LastsWithin (range_of low high) d n → LastsWithin other d n
  taken_in h = search (rules, above_other, below_by)

-- ---- a zone

pub shown_holds : (zone : ZoneBounds) → IsCanonical zone → (a b n : ℕ) → 0 < n
    → ZoneHolds zone a b n ↔ ShownHolds (shown zone) a b n
shown_holds zone c a b n some =
    let both = canonical-ranges zone c a b n some in (
      (λ h. let r = both.0 h in record {
        rising = r.rising;
        begin = r.begin;
        end = r.end;
        duration = r.duration;
      }),
      (λ s. both.1 (record {
        rising = s.rising;
        begin = s.begin;
        end = s.end;
        duration = s.duration;
      })),
    )

pub shown_tight : (zone : ZoneBounds) → IsCanonical zone → IsTightShown (shown zone)
shown_tight z c =
    let tight = canonical-tight z c in
    let some = canonical-some z c in
    let starts = c.framed.starts in
    let lasts = c.framed.lasts in
    let ends = lowered z.end_low z.begin_low z.dur_low c.closed.end_low starts lasts in
    record {
      some = (
        some.a,
        some.b,
        some.n,
        some.some,
        (shown_holds z c some.a some.b some.n some.some).0 some.held,
      );
      begin = record {
        bounded = refl;
        smallest = λ other each d n some. taken_in z z.begin_low z.begin_high (λ a b. 0) (λ a b. a)
            (λ a b. a) (λ a b le. omega arith) starts
            (raised z.begin_low z.begin_high c.room.begin_loop starts) tight.begin_low.tightest
            tight.begin_high.tightest other
            (λ a b n some le h. each a b n some ((shown_holds z c a b n some).0 h)) d n some;
      };
      end = record {
        bounded = refl;
        smallest = λ other each d n some. taken_in z z.end_low z.end_high (λ a b. 0) (λ a b. b)
            (λ a b. b) (λ a b le. omega arith) ends
            (raised z.end_low z.end_high c.room.end_loop ends) tight.end_low.tightest
            tight.end_high.tightest other
            (λ a b n some le h. each a b n some ((shown_holds z c a b n some).0 h)) d n some;
      };
      duration = record {
        bounded = refl;
        smallest = λ other each d n some. taken_in z z.dur_low z.dur_high (λ a b. a) (λ a b. b)
            (λ a b. b - a) (λ a b le. omega (arith, le)) lasts
            (raised z.dur_low z.dur_high c.room.dur_loop lasts) tight.dur_low.tightest
            tight.dur_high.tightest other
            (λ a b n some le h. each a b n some ((shown_holds z c a b n some).0 h)) d n some;
      };
    }
