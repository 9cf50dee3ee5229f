-- What of a zone ends before a time.
use Rattle.std.proofs.Common.{◌≡◌, ℕ, ◌+◌, ◌*◌, ◌<◌, ◌≤◌, sym, subst, arith, ℤ, pos, ◌≤ℤ◌, ◌<ℤ◌, ◌↔◌}
use Rattle.std.proofs.lemmas.Int.{ints, clamps}
use Rattle.std.specs.Int.{int_min}
use Rattle.tre_pairs.specs.Before.{Before}
use Rattle.tre_pairs.specs.declared.TheConstants.{TIME_MAX}
use Rattle.tre_zone.specs.Bound.{sum_of, Meets}
use Rattle.tre_zone.specs.Zone.{ZoneHolds, IsCanonical, IsZoneOf, HasNoPair}
use Rattle.tre_zone.specs.declared.zone_bounds.ZoneBounds.{ZoneBounds}
use Rattle.tre_zone.proofs.Bounds.{Meets-less}
use Rattle.tre_zone.proofs.Paths.{int_min-case, int_min-right, Meets-looser, Meets-min, Meets-sum, Meets-loop}
use Rattle.tre_zone.proofs.Sums.{sum_of-assoc, sum_of-le, sum_of-swap, le_sum_of-left, le_sum_of-right, le_trans}
use Rattle.tre_node.specs.Outer.{early_of}

le_refl : (x : ℤ) → x ≤ℤ x
le_refl x = omega (arith, ints)

le_same : (x y : ℤ) → x ≡ y → x ≤ℤ y
le_same x y same = omega (arith, ints)

least : (k x y : ℤ) → k ≤ℤ x → k ≤ℤ y → k ≤ℤ int_min x y
least k x y h h' = omega (arith, ints, clamps)

-- A pair ends before the end; some do.
module _ (z : ZoneBounds) (c : IsCanonical z) (end : ℤ) (low : pos 1 ≤ℤ sum_of z.end_low end)
    (high : end ≤ℤ z.end_high) where
  abbrev last : ℤ
  last = int_min z.begin_high (sum_of z.dur_low end)

  abbrev most : ℤ
  most = int_min z.dur_high (sum_of end z.begin_low)

  -- What begins by then has room, and lasts.
  begins : pos 1 ≤ℤ sum_of z.begin_low last
  begins = int_min-case (λ t. pos 1 ≤ℤ sum_of z.begin_low t) z.begin_high (sum_of z.dur_low end)
      (λ h. c.room.begin_loop)
      (λ h. subst (λ t. pos 1 ≤ℤ t) (sum_of-assoc z.begin_low z.dur_low end)
      (le_trans _ _ _ low (sum_of-le _ _ _ _ c.closed.end_low (le_refl end))))

  lasts : pos 1 ≤ℤ sum_of z.dur_low most
  lasts = int_min-case (λ t. pos 1 ≤ℤ sum_of z.dur_low t) z.dur_high (sum_of end z.begin_low)
      (λ h. c.room.dur_loop)
      (λ h. sum_of-swap _ _ (subst (λ t. pos 1 ≤ℤ t) (sym (sum_of-assoc end z.begin_low z.dur_low))
      (le_trans _ _ _ (sum_of-swap _ _ low) (sum_of-le _ _ _ _ (le_refl end) c.closed.end_low))))

  -- The low end of what begins.
  begin_low : z.begin_low ≤ℤ sum_of z.end_low most
  begin_low = int_min-case (λ t. z.begin_low ≤ℤ sum_of z.end_low t) z.dur_high (sum_of end z.begin_low)
      (λ h. c.closed.begin_low)
      (λ h. subst (λ t. z.begin_low ≤ℤ t) (sum_of-assoc z.end_low end z.begin_low)
      (le_sum_of-left z.begin_low (sum_of z.end_low end) low))

  end_high : end ≤ℤ sum_of most last
  end_high = int_min-case (λ t. end ≤ℤ sum_of most t) z.begin_high (sum_of z.dur_low end)
      (λ h. int_min-case (λ t. end ≤ℤ sum_of t z.begin_high) z.dur_high (sum_of end z.begin_low)
      (λ k. le_trans _ _ _ high c.closed.end_high)
      (λ k. subst (λ t. end ≤ℤ t) (sym (sum_of-assoc end z.begin_low z.begin_high))
      (le_sum_of-right end (sum_of z.begin_low z.begin_high) c.room.begin_loop)))
      (λ h. subst (λ t. end ≤ℤ t) (sum_of-assoc most z.dur_low end)
      (le_sum_of-left end (sum_of most z.dur_low) (sum_of-swap _ _ lasts)))

  dur_low : z.dur_low ≤ℤ sum_of last z.end_low
  dur_low = int_min-case (λ t. z.dur_low ≤ℤ sum_of t z.end_low) z.begin_high (sum_of z.dur_low end)
      (λ h. c.closed.dur_low)
      (λ h. subst (λ t. z.dur_low ≤ℤ t) (sym (sum_of-assoc z.dur_low end z.end_low))
      (le_sum_of-right z.dur_low (sum_of end z.end_low) (sum_of-swap _ _ low)))

  pub early_canonical : end ≤ℤ pos (2 * TIME_MAX + 1) → IsCanonical (early_of z end)
  unfolding early_of
  early_canonical limit = record {
    room = record {
      begin_loop = begins;
      end_loop = low;
      dur_loop = lasts;
    };
    closed = record {
      begin_low = begin_low;
      begin_high = int_min-right z.begin_high (sum_of z.dur_low end);
      end_low = c.closed.end_low;
      end_high = end_high;
      dur_low = dur_low;
      dur_high = int_min-right z.dur_high (sum_of end z.begin_low);
    };
    framed = record {
      starts = c.framed.starts;
      ends = limit;
      lasts = c.framed.lasts;
    };
  }

-- The same as pairs. The end is the bound "before the time".
module _ (z : ZoneBounds) (time : ℕ) (end : ℤ) (is : end ≡ pos (2 * time)) where
  pub end_within : time ≤ TIME_MAX → end ≤ℤ pos (2 * TIME_MAX + 1)
  end_within limit = omega (arith, ints, limit)

  less : (b n : ℕ) → Meets end b 0 n ↔ (b < 0 + time * n)
  less b n = Meets-less end time is b 0 n

  pub early_exact : end ≤ℤ z.end_high → IsZoneOf (early_of z end) (Before time (ZoneHolds z))
  unfolding early_of
  early_exact high = record {
    exact = λ a b n some le. (
      (λ h.
          let early = (less b n).0 h.end_high in
          record {
            related = record {
              begin_low = h.begin_low;
              begin_high = ((Meets-min z.begin_high (sum_of z.dur_low end) a 0 n some).0 h.begin_high).0;
              end_low = h.end_low;
              end_high = Meets-looser _ _ b 0 n some high h.end_high;
              dur_low = h.dur_low;
              dur_high = ((Meets-min z.dur_high (sum_of end z.begin_low) b a n some).0 h.dur_high).0;
            };
            early = omega (arith, early);
          }),
      (λ h.
          let r = h.related in
          let early = h.early in
          let before : Meets end b 0 n = (less b n).1 (omega (arith, early)) in
          record {
            begin_low = r.begin_low;
            begin_high = (Meets-min z.begin_high (sum_of z.dur_low end) a 0 n some).1
                (r.begin_high, Meets-sum z.dur_low end a b 0 n r.dur_low before);
            end_low = r.end_low;
            end_high = before;
            dur_low = r.dur_low;
            dur_high = (Meets-min z.dur_high (sum_of end z.begin_low) b a n some).1
                (r.dur_high, Meets-sum end z.begin_low b 0 a n before r.begin_low);
          }),
    );
  }

  -- All end before it, or none does.
  pub early_all : z.end_high ≤ℤ end → IsZoneOf z (Before time (ZoneHolds z))
  early_all high = record {
    exact = λ a b n some le. (
      (λ h.
          let early = (less b n).0 (Meets-looser _ _ b 0 n some high h.end_high) in
          record { related = h; early = omega (arith, early) }),
      (λ h. h.related),
    );
  }

  pub early_none : sum_of z.end_low end <ℤ pos 1 → HasNoPair (Before time (ZoneHolds z))
  early_none never = record {
    never = λ a b n some le h.
        let early = h.early in
        let room = Meets-loop _ 0 n some (Meets-sum z.end_low end 0 b 0 n h.related.end_low
        ((less b n).1 (omega (arith, early)))) in
        absurd (omega (arith, ints));
  }
