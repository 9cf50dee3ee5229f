-- Zones that end or begin at one moment: the bounds that are worked out for them.
use Rattle.std.proofs.Common.{◌≡◌, ◌∙◌, ℕ, ◌+◌, ◌*◌, ◌<◌, ◌⊎◌, inl, inr, ⊎_elim, ap, refl, sym, subst, arith, ℤ, pos, ◌-ℤ◌, ◌≤ℤ◌}
use Rattle.std.proofs.lemmas.Int.{ints, clamps, by_lt_z}
use Rattle.std.specs.Int.{int_min, int_max}
use Rattle.tre_pairs.specs.Pairs.{Composed, Either, Both}
use Rattle.tre_zone.specs.Beyond.{looser_of}
use Rattle.tre_zone.specs.Bound.{sum_of, Meets}
use Rattle.tre_zone.specs.Zone.{ZoneHolds, Covers, EndsAt, IsCanonical, IsZoneOf}
use Rattle.tre_zone.specs.declared.zone_bounds.ZoneBounds.{ZoneBounds}
use Rattle.tre_zone.proofs.Bounds.{split, split-sum, Meets-at_least, Meets-at_most}
use Rattle.tre_zone.proofs.Opposites.{Meets-opposite, Meets-cases}
use Rattle.tre_zone.proofs.Paths.{int_min-case, int_min-left, int_min-right, Meets-looser, Meets-min, Meets-sum}
use Rattle.tre_zone.proofs.Sums.{sum_of-comm, sum_of-assoc, sum_of-le, sum_of-swap, le_sum_of-left, le_sum_of-right, le_trans}
use Rattle.tre_zone.proofs.Tightness.{Covers-Includes}
use Rattle.tre_zone.proofs.Unions.{looser-canonical}
use Rattle.tre_zone.proofs.ZoneKeys.{zones_same}
use Rattle.tre_compose.specs.Composition.{Touch, joined_of, composed_of}
use Rattle.tre_compose.proofs.Joined.{composed-canonical}
use Rattle.tre_compose.proofs.Midpoints.{touch-exact}
use Rattle.tre_node.specs.Moments.{AreMomentsBefore, MeetAtMoment, LeaveNoGap, followed_at, ending_with}

-- ---- sums

one_right : (x : ℤ) → sum_of x (pos 1) ≡ x
one_right x =
    let a = split x in
    let b = split (pos 1) in
    let s = split-sum x (pos 1) in
    omega (arith, ints)

one_left : (x : ℤ) → sum_of (pos 1) x ≡ x
one_left x = sum_of-comm (pos 1) x ∙ one_right x

-- What sums to nothing in the middle falls out.
middle : (l m m' r : ℤ) → sum_of m m' ≡ pos 1 → sum_of (sum_of l m) (sum_of m' r) ≡ sum_of l r
middle l m m' r none =
    sum_of-assoc l m (sum_of m' r)
    ∙ ap (λ (t : ℤ). sum_of l t)
    (sym (sum_of-assoc m m' r) ∙ ap (λ (t : ℤ). sum_of t r) none ∙ one_left r)

last : (l m m' : ℤ) → sum_of m m' ≡ pos 1 → sum_of (sum_of l m) m' ≡ l
last l m m' none = sum_of-assoc l m m' ∙ ap (λ (t : ℤ). sum_of l t) none ∙ one_right l

first : (m m' r : ℤ) → sum_of m m' ≡ pos 1 → sum_of m (sum_of m' r) ≡ r
first m m' r none = sym (sum_of-assoc m m' r) ∙ ap (λ (t : ℤ). sum_of t r) none ∙ one_left r

min_first : (x y : ℤ) → x ≤ℤ y → int_min x y ≡ x
min_first x y le = omega (arith, ints, clamps)

min_second : (x y : ℤ) → y ≤ℤ x → int_min x y ≡ y
min_second x y le = omega (arith, ints, clamps)

max_first : (x y : ℤ) → y ≤ℤ x → int_max x y ≡ x
max_first x y le = omega (arith, ints, clamps)

max_second : (x y : ℤ) → x ≤ℤ y → int_max x y ≡ y
max_second x y le = omega (arith, ints, clamps)

le_same : (x y : ℤ) → x ≡ y → x ≤ℤ y
le_same x y same = omega (arith, ints)

le_both : (x y : ℤ) → x ≤ℤ y → y ≤ℤ x → x ≡ y
le_both x y h k = omega (arith, ints)

to_right : (key l r r' : ℤ) → r ≡ r' → key ≤ℤ sum_of l r → key ≤ℤ sum_of l r'
to_right key l r r' same le = subst (λ (t : ℤ). key ≤ℤ sum_of l t) same le

to_left : (key l l' r : ℤ) → l ≡ l' → key ≤ℤ sum_of l r → key ≤ℤ sum_of l' r
to_left key l l' r same le = subst (λ (t : ℤ). key ≤ℤ sum_of t r) same le

-- ---- one after the other, at a moment

module _ (x y : ZoneBounds) (c : IsCanonical x) (d : IsCanonical y) (meet : MeetAtMoment x y) where
  crossed : sum_of x.end_low y.begin_high ≡ pos 1
  crossed = ap (λ (t : ℤ). sum_of x.end_low t) (sym meet.high) ∙ meet.moment

  crossed_back : sum_of y.begin_low x.end_high ≡ pos 1
  crossed_back = ap (λ (t : ℤ). sum_of t x.end_high) (sym meet.low) ∙ meet.moment

  meet_touch : Touch x y
  meet_touch = record {
    not_late = le_same _ _ (sym crossed);
    not_early = le_same _ _ (sym crossed_back);
  }

  begin_low_kept : int_min x.begin_low (sum_of y.begin_low x.dur_high) ≡ x.begin_low
  begin_low_kept = min_first _ _ (to_left _ _ _ _ meet.low c.closed.begin_low)

  begin_high_kept : int_min x.begin_high (sum_of x.dur_low y.begin_high) ≡ x.begin_high
  begin_high_kept = min_first _ _ (to_right _ _ _ _ meet.high c.closed.begin_high)

  end_low_kept : int_min y.end_low (sum_of x.end_low y.dur_low) ≡ y.end_low
  end_low_kept = min_first _ _ (to_left _ _ _ _ (sym meet.low) d.closed.end_low)

  end_high_kept : int_min y.end_high (sum_of y.dur_high x.end_high) ≡ y.end_high
  end_high_kept = min_first _ _ (to_right _ _ _ _ (sym meet.high) d.closed.end_high)

  shortest : sum_of x.dur_low y.dur_low ≤ℤ sum_of x.begin_high y.end_low
  shortest = subst (λ (t : ℤ). sum_of x.dur_low y.dur_low ≤ℤ t)
      (middle x.begin_high x.end_low y.begin_high y.end_low crossed)
      (sum_of-le _ _ _ _ c.closed.dur_low d.closed.dur_low)

  longest : sum_of y.dur_high x.dur_high ≤ℤ sum_of y.end_high x.begin_low
  longest = subst (λ (t : ℤ). sum_of y.dur_high x.dur_high ≤ℤ t)
      (middle y.end_high y.begin_low x.end_high x.begin_low crossed_back)
      (sum_of-le _ _ _ _ d.closed.dur_high c.closed.dur_high)

  meet_composed : composed_of x y ≡ followed_at x y
  unfolding joined_of composed_of followed_at
  meet_composed = zones_same _ _ begin_low_kept begin_high_kept end_low_kept end_high_kept
      (ap (λ (t : ℤ). int_min (sum_of x.dur_low y.dur_low)
      (sum_of t (int_min y.end_low (sum_of x.end_low y.dur_low)))) begin_high_kept
      ∙ ap (λ (t : ℤ). int_min (sum_of x.dur_low y.dur_low) (sum_of x.begin_high t)) end_low_kept
      ∙ min_first _ _ shortest)
      (ap (λ (t : ℤ). int_min (sum_of y.dur_high x.dur_high)
      (sum_of t (int_min x.begin_low (sum_of y.begin_low x.dur_high)))) end_high_kept
      ∙ ap (λ (t : ℤ). int_min (sum_of y.dur_high x.dur_high) (sum_of y.end_high t)) begin_low_kept
      ∙ min_first _ _ longest)

  pub meet_canonical : IsCanonical (followed_at x y)
  meet_canonical = subst IsCanonical meet_composed (composed-canonical x y c d meet_touch)

  pub meet_exact : IsZoneOf (followed_at x y) (Composed (ZoneHolds x) (ZoneHolds y))
  meet_exact = subst (λ (z : ZoneBounds). IsZoneOf z (Composed (ZoneHolds x) (ZoneHolds y)))
      meet_composed (touch-exact x y c d meet_touch)

-- ---- behind moments

module _ (x y : ZoneBounds) (c : IsCanonical x) (d : IsCanonical y) (all : AreMomentsBefore x y)
  where
    no_longer : x.dur_high ≡ pos 1
    no_longer =
        let a = split x.dur_low in
        let b = split x.dur_high in
        let s = split-sum x.dur_low x.dur_high in
        let room = c.room.dur_loop in
        let lasts = c.framed.lasts in
        let instant = all.instant in
        omega (arith, ints)

    no_shorter : x.dur_low ≡ pos 1
    no_shorter =
        let a = split x.dur_low in
        let b = split x.dur_high in
        let s = split-sum x.dur_low x.dur_high in
        let room = c.room.dur_loop in
        let lasts = c.framed.lasts in
        let instant = all.instant in
        omega (arith, ints)

    low_same : x.end_low ≡ x.begin_low
    low_same = le_both _ _
        (subst (λ (t : ℤ). x.end_low ≤ℤ t) (one_right x.begin_low)
        (to_right _ _ _ _ no_shorter c.closed.end_low))
        (subst (λ (t : ℤ). x.begin_low ≤ℤ t) (one_right x.end_low)
        (to_right _ _ _ _ no_longer c.closed.begin_low))

    high_same : x.end_high ≡ x.begin_high
    high_same = le_both _ _
        (subst (λ (t : ℤ). x.end_high ≤ℤ t) (one_left x.begin_high)
        (to_left _ _ _ _ no_longer c.closed.end_high))
        (subst (λ (t : ℤ). x.begin_high ≤ℤ t) (one_left x.end_high)
        (to_left _ _ _ _ no_shorter c.closed.begin_high))

    low_before : y.begin_low ≤ℤ x.end_low
    low_before = subst (λ (t : ℤ). y.begin_low ≤ℤ t) (sym low_same) all.low

    high_before : y.begin_high ≤ℤ x.end_high
    high_before = subst (λ (t : ℤ). y.begin_high ≤ℤ t) (sym high_same) all.high

    le_refl : (key : ℤ) → key ≤ℤ key
    le_refl key = le_same key key refl

    moments_touch : Touch x y
    moments_touch = record {
      not_late = le_trans _ _ _ d.room.begin_loop
          (sum_of-le _ _ _ _ low_before (le_refl y.begin_high));
      not_early = le_trans _ _ _ d.room.begin_loop
          (sum_of-le _ _ _ _ (le_refl y.begin_low) high_before);
    }

    begin_low_all : int_min x.begin_low (sum_of y.begin_low x.dur_high) ≡ y.begin_low
    begin_low_all =
        ap (λ (t : ℤ). int_min x.begin_low t)
        (ap (λ (t : ℤ). sum_of y.begin_low t) no_longer ∙ one_right y.begin_low)
        ∙ min_second _ _ all.low

    begin_high_all : int_min x.begin_high (sum_of x.dur_low y.begin_high) ≡ y.begin_high
    begin_high_all =
        ap (λ (t : ℤ). int_min x.begin_high t)
        (ap (λ (t : ℤ). sum_of t y.begin_high) no_shorter ∙ one_left y.begin_high)
        ∙ min_second _ _ all.high

    end_low_all : int_min y.end_low (sum_of x.end_low y.dur_low) ≡ y.end_low
    end_low_all = min_first _ _ (le_trans _ _ _ d.closed.end_low
        (sum_of-le _ _ _ _ low_before (le_refl y.dur_low)))

    end_high_all : int_min y.end_high (sum_of y.dur_high x.end_high) ≡ y.end_high
    end_high_all = min_first _ _ (le_trans _ _ _ d.closed.end_high
        (sum_of-le _ _ _ _ (le_refl y.dur_high) high_before))

    shortest_all : sum_of x.dur_low y.dur_low ≡ y.dur_low
    shortest_all = ap (λ (t : ℤ). sum_of t y.dur_low) no_shorter ∙ one_left y.dur_low

    longest_all : sum_of y.dur_high x.dur_high ≡ y.dur_high
    longest_all = ap (λ (t : ℤ). sum_of y.dur_high t) no_longer ∙ one_right y.dur_high

    moments_composed : composed_of x y ≡ y
    unfolding joined_of composed_of
    moments_composed = zones_same _ _ begin_low_all begin_high_all end_low_all end_high_all
        (ap (λ (t : ℤ). int_min (sum_of x.dur_low y.dur_low)
        (sum_of t (int_min y.end_low (sum_of x.end_low y.dur_low)))) begin_high_all
        ∙ ap (λ (t : ℤ). int_min (sum_of x.dur_low y.dur_low) (sum_of y.begin_high t)) end_low_all
        ∙ ap (λ (t : ℤ). int_min t (sum_of y.begin_high y.end_low)) shortest_all
        ∙ min_first _ _ d.closed.dur_low)
        (ap (λ (t : ℤ). int_min (sum_of y.dur_high x.dur_high)
        (sum_of t (int_min x.begin_low (sum_of y.begin_low x.dur_high)))) end_high_all
        ∙ ap (λ (t : ℤ). int_min (sum_of y.dur_high x.dur_high) (sum_of y.end_high t)) begin_low_all
        ∙ ap (λ (t : ℤ). int_min t (sum_of y.end_high y.begin_low)) longest_all
        ∙ min_first _ _ d.closed.dur_high)

    pub moments_exact : IsZoneOf y (Composed (ZoneHolds x) (ZoneHolds y))
    moments_exact = subst (λ (z : ZoneBounds). IsZoneOf z (Composed (ZoneHolds x) (ZoneHolds y)))
        moments_composed (touch-exact x y c d moments_touch)

-- ---- what ends at a time by which all have ended

at_once : (time : ℕ) → sum_of (pos 1 -ℤ pos (2 * time)) (pos (2 * time + 1)) ≡ pos 1
at_once time =
    let a = split (pos 1 -ℤ pos (2 * time)) in
    let b = split (pos (2 * time + 1)) in
    let s = split-sum (pos 1 -ℤ pos (2 * time)) (pos (2 * time + 1)) in
    omega (arith, ints)

module _ (z : ZoneBounds) (c : IsCanonical z) (time : ℕ) (all : z.end_high ≡ pos (2 * time + 1))
  where
    abbrev low : ℤ
    low = pos 1 -ℤ pos (2 * time)

    abbrev high : ℤ
    high = pos (2 * time + 1)

    none : sum_of low high ≡ pos 1
    none = at_once time

    none_back : sum_of high low ≡ pos 1
    none_back = sum_of-comm high low ∙ none

    abbrev from : ℤ
    from = int_min z.begin_low (sum_of low z.dur_high)

    leaves : pos 1 ≤ℤ sum_of from z.begin_high
    leaves = int_min-case (λ (t : ℤ). pos 1 ≤ℤ sum_of t z.begin_high) z.begin_low
        (sum_of low z.dur_high) (λ h. c.room.begin_loop)
        (λ h. subst (λ (t : ℤ). pos 1 ≤ℤ t) (sym (sum_of-assoc low z.dur_high z.begin_high))
        (le_trans _ _ _ (le_same _ _ (sym none))
        (sum_of-le _ _ _ _ (le_same low low refl)
        (subst (λ (t : ℤ). t ≤ℤ sum_of z.dur_high z.begin_high) all c.closed.end_high))))

    -- The begins that were bound by the durations are bound by them still.
    lasts : sum_of z.begin_high low ≤ℤ z.dur_low
    lasts = subst (λ (t : ℤ). sum_of z.begin_high low ≤ℤ t) (last z.dur_low high low none_back)
        (sum_of-le _ _ _ _ (to_right _ _ _ _ all c.closed.begin_high) (le_same low low refl))

    within : sum_of high from ≤ℤ z.dur_high
    within = subst (λ (t : ℤ). sum_of high from ≤ℤ t) (first high low z.dur_high none_back)
        (sum_of-le _ _ _ _ (le_same high high refl) (int_min-right z.begin_low (sum_of low z.dur_high)))

    pub ending_canonical : IsCanonical (ending_with z time)
    unfolding ending_with
    ending_canonical = record {
      room = record {
        begin_loop = leaves;
        end_loop = le_same _ _ (sym none);
        dur_loop = subst (λ (t : ℤ). pos 1 ≤ℤ t) (sym (middle z.begin_high low high from none))
            (sum_of-swap _ _ leaves);
      };
      closed = record {
        begin_low = le_same _ _ (sym (first low high from none));
        begin_high = le_same _ _ (sym (last z.begin_high low high none));
        end_low = subst (λ (t : ℤ). low ≤ℤ t) (sum_of-assoc from z.begin_high low)
            (le_sum_of-left low (sum_of from z.begin_high) leaves);
        end_high = subst (λ (t : ℤ). high ≤ℤ t) (sym (sum_of-assoc high from z.begin_high))
            (le_sum_of-right high (sum_of from z.begin_high) leaves);
        dur_low = le_same _ _ refl;
        dur_high = le_same _ _ refl;
      };
      framed = record {
        starts = le_trans _ _ _ (int_min-left z.begin_low (sum_of low z.dur_high)) c.framed.starts;
        ends = le_trans _ _ _ (le_same _ _ (sym all)) c.framed.ends;
        lasts = le_trans _ _ _ lasts c.framed.lasts;
      };
    }

    -- The lowest end is no later.
    late : low ≤ℤ z.end_low
    late = subst (λ (t : ℤ). t ≤ℤ z.end_low) (one_left low)
        (subst (λ (t : ℤ). sum_of (pos 1) low ≤ℤ t)
        (last z.end_low high low none_back)
        (sum_of-le _ _ _ _
        (subst (λ (t : ℤ). pos 1 ≤ℤ sum_of z.end_low t) all c.room.end_loop)
        (le_same low low refl)))

    pub ending_exact : IsZoneOf (ending_with z time) (Both (ZoneHolds z) (EndsAt time))
    unfolding ending_with
    ending_exact = record {
      exact = λ a b n some le.
          let at_least = Meets-at_least low time refl 0 b n in
          let at_most = Meets-at_most high time refl b 0 n in
          let begins = Meets-min z.begin_low (sum_of low z.dur_high) 0 a n some in (
            (λ h.
                let early = at_least.0 h.end_low in
                let ends = at_most.0 h.end_high in
                record {
                  left = record {
                    begin_low = (begins.0 h.begin_low).0;
                    begin_high = h.begin_high;
                    end_low = Meets-looser _ _ 0 b n some late h.end_low;
                    end_high = subst (λ (t : ℤ). Meets t b 0 n) (sym all) h.end_high;
                    dur_low = Meets-looser _ _ a b n some lasts h.dur_low;
                    dur_high = Meets-looser _ _ b a n some within h.dur_high;
                  };
                  right = record { ends = omega (arith, early, ends) };
                }),
            (λ h.
                let ends = h.right.ends in
                let held = h.left in
                let at_low = at_least.1 (omega (arith, ends)) in
                let at_high = at_most.1 (omega (arith, ends)) in
                let begin = begins.1 (
                  held.begin_low,
                  Meets-sum low z.dur_high 0 b a n at_low held.dur_high,
                ) in
                record {
                  begin_low = begin;
                  begin_high = held.begin_high;
                  end_low = at_low;
                  end_high = at_high;
                  dur_low = Meets-sum z.begin_high low a 0 b n held.begin_high at_low;
                  dur_high = Meets-sum high from b 0 a n at_high begin;
                }),
          );
    }

-- ---- both together, where they end at one moment

module _ (z : ZoneBounds) (c : IsCanonical z) (moment : sum_of z.end_low z.end_high ≡ pos 1) where
  moment_back : sum_of z.end_high z.end_low ≡ pos 1
  moment_back = sum_of-comm z.end_high z.end_low ∙ moment

  shortest_at : z.dur_low ≡ sum_of z.begin_high z.end_low
  shortest_at = le_both _ _ c.closed.dur_low
      (subst (λ (t : ℤ). sum_of z.begin_high z.end_low ≤ℤ t)
      (last z.dur_low z.end_high z.end_low moment_back)
      (sum_of-le _ _ _ _ c.closed.begin_high (le_same z.end_low z.end_low refl)))

  longest_at : z.dur_high ≡ sum_of z.end_high z.begin_low
  longest_at = le_both _ _ c.closed.dur_high
      (subst (λ (t : ℤ). sum_of z.end_high z.begin_low ≤ℤ t)
      (first z.end_high z.end_low z.dur_high moment_back)
      (sum_of-le _ _ _ _ (le_same z.end_high z.end_high refl) c.closed.begin_low))

  -- Then the begin and the end say all.
  at_begin : (a b n : ℕ) → Meets z.begin_low 0 a n → Meets z.begin_high a 0 n
      → Meets z.end_low 0 b n → Meets z.end_high b 0 n → ZoneHolds z a b n
  at_begin a b n low high first last = record {
    begin_low = low;
    begin_high = high;
    end_low = first;
    end_high = last;
    dur_low = subst (λ (t : ℤ). Meets t a b n) (sym shortest_at)
        (Meets-sum z.begin_high z.end_low a 0 b n high first);
    dur_high = subst (λ (t : ℤ). Meets t b a n) (sym longest_at)
        (Meets-sum z.end_high z.begin_low b 0 a n last low);
  }

-- What meets the looser of two bounds, and not the one, meets the other.
other_met : (key other : ℤ) (p q n : ℕ) → (Meets key p q n → ⊥) → Meets (int_max key other) p q n
    → Meets other p q n
other_met key other p q n not met = by_lt_z key other
    (λ lt. subst (λ (t : ℤ). Meets t p q n) (max_second key other (omega (arith, ints))) met)
    (λ le. absurd (not (subst (λ (t : ℤ). Meets t p q n) (max_first key other le) met)))

module _ (x y : ZoneBounds) (c : IsCanonical x) (d : IsCanonical y) (beside : LeaveNoGap x y) where
  pub joined_canonical : IsCanonical (looser_of x y)
  joined_canonical = looser-canonical x y c d

  moment_of_both : sum_of y.end_low y.end_high ≡ pos 1
  moment_of_both =
      ap (λ (t : ℤ). sum_of t y.end_high) (sym beside.ends.low)
      ∙ ap (λ (t : ℤ). sum_of x.end_low t) (sym beside.ends.high) ∙ beside.ends.moment

  low_of_both : int_max x.end_low y.end_low ≡ x.end_low
  low_of_both = max_first _ _ (le_same _ _ (sym beside.ends.low))

  high_of_both : int_max x.end_high y.end_high ≡ x.end_high
  high_of_both = max_first _ _ (le_same _ _ (sym beside.ends.high))

  after : (pos 1 -ℤ x.begin_high) ≤ℤ y.begin_low
  after = let first = beside.first in omega (arith, ints)

  before : (pos 1 -ℤ x.begin_low) ≤ℤ y.begin_high
  before = let last = beside.last in omega (arith, ints)

  -- A begin that isn't one of the first is one of the second.
  begin_of : (a n : ℕ) → 0 < n → Meets (int_max x.begin_low y.begin_low) 0 a n
      → Meets (int_max x.begin_high y.begin_high) a 0 n
      → (Meets x.begin_low 0 a n × Meets x.begin_high a 0 n)
      ⊎ (Meets y.begin_low 0 a n × Meets y.begin_high a 0 n)
  begin_of a n some low high = ⊎_elim
      (λ in_low. ⊎_elim (λ in_high. inl (in_low, in_high))
      (λ not. inr (
        Meets-looser _ _ 0 a n some after (Meets-opposite x.begin_high a 0 n not),
        other_met x.begin_high y.begin_high a 0 n not high,
      ))
      (Meets-cases x.begin_high a 0 n))
      (λ not. inr (
        other_met x.begin_low y.begin_low 0 a n not low,
        Meets-looser _ _ a 0 n some before (Meets-opposite x.begin_low 0 a n not),
      ))
      (Meets-cases x.begin_low 0 a n)

  covers_first : Covers (looser_of x y) x
  unfolding looser_of
  covers_first = record {
    begin_low = omega (arith, ints, clamps);
    begin_high = omega (arith, ints, clamps);
    end_low = omega (arith, ints, clamps);
    end_high = omega (arith, ints, clamps);
    dur_low = omega (arith, ints, clamps);
    dur_high = omega (arith, ints, clamps);
  }

  covers_second : Covers (looser_of x y) y
  unfolding looser_of
  covers_second = record {
    begin_low = omega (arith, ints, clamps);
    begin_high = omega (arith, ints, clamps);
    end_low = omega (arith, ints, clamps);
    end_high = omega (arith, ints, clamps);
    dur_low = omega (arith, ints, clamps);
    dur_high = omega (arith, ints, clamps);
  }

  pub joined_exact : IsZoneOf (looser_of x y) (Either (ZoneHolds x) (ZoneHolds y))
  unfolding looser_of
  joined_exact = record {
    exact = λ a b n some le. (
      (λ h.
          let first = subst (λ (t : ℤ). Meets t 0 b n) low_of_both h.end_low in
          let last = subst (λ (t : ℤ). Meets t b 0 n) high_of_both h.end_high in
          ⊎_elim (λ k. inl (at_begin x c beside.ends.moment a b n k.0 k.1 first last))
          (λ k. inr (at_begin y d moment_of_both a b n k.0 k.1
          (subst (λ (t : ℤ). Meets t 0 b n) beside.ends.low first)
          (subst (λ (t : ℤ). Meets t b 0 n) beside.ends.high last)))
          (begin_of a n some h.begin_low h.begin_high)),
      (λ h. ⊎_elim
          (λ k. (Covers-Includes (looser_of x y) x covers_first).every a b n some le k)
          (λ k. (Covers-Includes (looser_of x y) y covers_second).every a b n some le k) h),
    );
  }
