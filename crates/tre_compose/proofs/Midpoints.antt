-- The composed bounds hold exactly the pairs that have a moment in the middle.
use Rattle.std.proofs.Common.{◌≡◌, ℕ, ◌+◌, ◌*◌, ◌<◌, refl, subst, arith, ℤ, pos, ◌+ℤ◌, ◌-ℤ◌, ◌*ℤ◌, ◌≤ℤ◌}
use Rattle.std.proofs.lemmas.Int.{ints, clamps}
use Rattle.std.proofs.Math.Nat.{mul-pos}
use Rattle.std.specs.Int.{int_max}
use borrow.Author.Differences.{up}
use Rattle.tre_pairs.specs.Pairs.{Composed}
use Rattle.tre_pairs.specs.declared.TheConstants.{TIME_MAX}
use Rattle.tre_zone.specs.Bound.{value_of, weakness_of, sum_of, Meets}
use Rattle.tre_zone.specs.Zone.{ZoneHolds, IsCanonical, IsZoneOf, HasNoPair}
use Rattle.tre_zone.specs.declared.zone_bounds.ZoneBounds.{ZoneBounds}
use Rattle.tre_zone.proofs.Bounds.{split, Meets-at_most, value_of-sum_of, weakness_of-sum_of}
use Rattle.tre_zone.proofs.Paths.{Meets-looser, Meets-sum, Meets-min, Meets-loop, int_min-left, int_min-right, pos-up, add_times, le_times}
use Rattle.tre_zone.proofs.Sums.{sum_of-swap, le_sum_of-left, le_sum_of-right}
use Rattle.tre_zone.proofs.Scaling.{ZoneHolds-scale, Meets-scale}
use Rattle.tre_compose.specs.Begins.{BeginsOf, begins_of}
use Rattle.tre_compose.specs.Composition.{HasHalfway, Touch, joined_of, composed_of}

-- ---- a moment between bounds, at twice the denominator

-- The greatest difference, in units of 1/(2n), that meets a bound.
unfoldable reach_of : ℤ → ℕ → ℤ
reach_of key n = (((value_of key *ℤ pos n) +ℤ (value_of key *ℤ pos n)) +ℤ pos
    (weakness_of key)) -ℤ pos 1

twice : (value : ℤ) (n : ℕ) → value *ℤ pos (2 * n) ≡ (value *ℤ pos n) +ℤ (value *ℤ pos n)
twice value n = omega (arith, ints)

Meets-reach : (key : ℤ) (p q n : ℕ) → (pos p -ℤ pos q) ≤ℤ reach_of key n → Meets key p q (2 * n)
unfolding reach_of
Meets-reach key p q n le = record { met = rw (twice (value_of key) n) (omega (arith, ints)) }

-- Where the sum of two bounds is met by p and q, the bound on p leaves a moment that is no later
-- than the bound on q asks.
gap : (left right : ℤ) (p q n : ℕ) → Meets (sum_of left right) p q n
    → (pos (2 * p) -ℤ reach_of left n) ≤ℤ (pos (2 * q) +ℤ reach_of right n)
unfolding reach_of
gap left right p q n m =
    let met = rw (
      value_of-sum_of left right,
      weakness_of-sum_of left right,
      add_times
          (value_of left) (value_of right) n,
    ) at m.met in
    let a = (split left).small in
    let b = (split right).small in
    omega (arith, ints)

own : (p n : ℕ) → Meets (pos 1) p p n
own p n = (Meets-at_most (pos 1) 0 refl p p n).1 (omega arith)

-- The same at one time, where the two bounds leave room.
room : (left right : ℤ) (p n : ℕ) → 0 < n → pos 1 ≤ℤ sum_of left right
    → (pos (2 * p) -ℤ reach_of left n) ≤ℤ (pos (2 * p) +ℤ reach_of right n)
room left right p n some loop =
    gap left right p p n (Meets-looser (pos 1) (sum_of left right) p p n some loop (own p n))

-- The greatest of four.
record Greatest (a b c d : ℤ) : Type 0 where
  top : ℤ
  first : a ≤ℤ top
  second : b ≤ℤ top
  third : c ≤ℤ top
  fourth : d ≤ℤ top
  least : (u : ℤ) → a ≤ℤ u → b ≤ℤ u → c ≤ℤ u → d ≤ℤ u → top ≤ℤ u

max_le : (x y u : ℤ) → x ≤ℤ u → y ≤ℤ u → int_max x y ≤ℤ u
max_le x y u h k = omega (arith, ints, clamps)

greatest : (a b c d : ℤ) → Greatest a b c d
greatest a b c d = record {
  top = int_max (int_max a b) (int_max c d);
  first = omega (arith, ints, clamps);
  second = omega (arith, ints, clamps);
  third = omega (arith, ints, clamps);
  fourth = omega (arith, ints, clamps);
  least = λ u h k l m. max_le _ _ u (max_le a b u h k) (max_le c d u l m);
}

below_zero : (key : ℤ) (n : ℕ) → key ≤ℤ pos 1 → pos 0 ≤ℤ (pos 0 -ℤ reach_of key n)
unfolding reach_of
below_zero key n le =
    let s = split key in
    let value : value_of key ≤ℤ pos 0 = omega (arith, ints) in
    let times = le_times (value_of key) (pos 0) n value in
    omega (arith, ints)

-- ---- the moment of two zones

-- What the composed bounds say of each way through the moment.
record Through (x y z : ZoneBounds) : Type 0 where
  begin_low : z.begin_low ≤ℤ x.begin_low
  begin_high : z.begin_high ≤ℤ x.begin_high
  end_low : z.end_low ≤ℤ y.end_low
  end_high : z.end_high ≤ℤ y.end_high
  begin_low_by : z.begin_low ≤ℤ sum_of y.begin_low x.dur_high
  begin_high_by : z.begin_high ≤ℤ sum_of x.dur_low y.begin_high
  end_low_by : z.end_low ≤ℤ sum_of x.end_low y.dur_low
  end_high_by : z.end_high ≤ℤ sum_of y.dur_high x.end_high
  dur_low_by : z.dur_low ≤ℤ sum_of x.dur_low y.dur_low
  dur_high_by : z.dur_high ≤ℤ sum_of y.dur_high x.dur_high

through : (x y : ZoneBounds) → Through x y (composed_of x y)
unfolding composed_of joined_of
through x y = record {
  begin_low = int_min-left _ _;
  begin_high = int_min-left _ _;
  end_low = int_min-left _ _;
  end_high = int_min-left _ _;
  begin_low_by = int_min-right _ _;
  begin_high_by = int_min-right _ _;
  end_low_by = int_min-right _ _;
  end_high_by = int_min-right _ _;
  dur_low_by = int_min-left _ _;
  dur_high_by = int_min-left _ _;
}

halfway_in : (x y z : ZoneBounds) → IsCanonical x → IsCanonical y → Touch x y → Through x y z
    → (a b n : ℕ) → 0 < n → ZoneHolds z a b n
    → HasHalfway x y a b n
halfway_in x y z c d t way a b n some h =
    let x_begin_low = Meets-looser _ _ 0 a n some way.begin_low h.begin_low in
    let x_begin_high = Meets-looser _ _ a 0 n some way.begin_high h.begin_high in
    let y_end_low = Meets-looser _ _ 0 b n some way.end_low h.end_low in
    let y_end_high = Meets-looser _ _ b 0 n some way.end_high h.end_high in
    let g = greatest (pos (2 * 0) -ℤ reach_of x.end_low n) (pos (2 * 0) -ℤ reach_of y.begin_low n)
    (pos (2 * a) -ℤ reach_of x.dur_low n) (pos (2 * b) -ℤ reach_of y.dur_high n) in
    let by_x_end : g.top ≤ℤ (pos (2 * 0) +ℤ reach_of x.end_high n) =
    g.least _ (room x.end_low x.end_high 0 n some c.room.end_loop)
    (room y.begin_low x.end_high 0 n some t.not_early)
    (gap x.dur_low x.end_high a 0 n (Meets-looser _ _ a 0 n some c.closed.begin_high x_begin_high))
    (gap y.dur_high x.end_high b 0 n (Meets-looser _ _ b 0 n some way.end_high_by h.end_high)) in
    let by_y_begin : g.top ≤ℤ (pos (2 * 0) +ℤ reach_of y.begin_high n) =
    g.least _ (room x.end_low y.begin_high 0 n some t.not_late)
    (room y.begin_low y.begin_high 0 n some d.room.begin_loop)
    (gap x.dur_low y.begin_high a 0 n (Meets-looser _ _ a 0 n some way.begin_high_by h.begin_high))
    (gap y.dur_high y.begin_high b 0 n (Meets-looser _ _ b 0 n some d.closed.end_high y_end_high))
    in
    let by_x_dur : g.top ≤ℤ (pos (2 * a) +ℤ reach_of x.dur_high n) =
    g.least _ (gap x.end_low x.dur_high 0 a n
    (Meets-looser _ _ 0 a n some c.closed.begin_low x_begin_low))
    (gap y.begin_low x.dur_high 0 a n (Meets-looser _ _ 0 a n some way.begin_low_by h.begin_low))
    (room x.dur_low x.dur_high a n some c.room.dur_loop)
    (gap y.dur_high x.dur_high b a n (Meets-looser _ _ b a n some way.dur_high_by h.dur_high)) in
    let by_y_dur : g.top ≤ℤ (pos (2 * b) +ℤ reach_of y.dur_low n) =
    g.least _ (gap x.end_low y.dur_low 0 b n (Meets-looser _ _ 0 b n some way.end_low_by h.end_low))
    (gap y.begin_low y.dur_low 0 b n (Meets-looser _ _ 0 b n some d.closed.end_low y_end_low))
    (gap x.dur_low y.dur_low a b n (Meets-looser _ _ a b n some way.dur_low_by h.dur_low))
    (room y.dur_high y.dur_low b n some (sum_of-swap _ _ d.room.dur_loop)) in
    let at_least = g.second in
    let start = below_zero y.begin_low n d.framed.starts in
    let e = pos-up g.top (omega (arith, ints)) in
    record {
      midpoint = up g.top;
      left = record {
        begin_low = (Meets-scale x.begin_low 2 0 a n (omega arith)).0 x_begin_low;
        begin_high = (Meets-scale x.begin_high 2 a 0 n (omega arith)).0 x_begin_high;
        end_low = Meets-reach x.end_low 0 (up g.top) n (omega (arith, ints, g.first));
        end_high = Meets-reach x.end_high (up g.top) 0 n (omega (arith, ints));
        dur_low = Meets-reach x.dur_low (2 * a) (up g.top) n (omega (arith, ints, g.third));
        dur_high = Meets-reach x.dur_high (up g.top) (2 * a) n (omega (arith, ints));
      };
      right = record {
        begin_low = Meets-reach y.begin_low 0 (up g.top) n (omega (arith, ints));
        begin_high = Meets-reach y.begin_high (up g.top) 0 n (omega (arith, ints));
        end_low = (Meets-scale y.end_low 2 0 b n (omega arith)).0 y_end_low;
        end_high = (Meets-scale y.end_high 2 b 0 n (omega arith)).0 y_end_high;
        dur_low = Meets-reach y.dur_low (up g.top) (2 * b) n (omega (arith, ints));
        dur_high = Meets-reach y.dur_high (2 * b) (up g.top) n (omega (arith, ints, g.fourth));
      };
    }

pub halfway : (x y : ZoneBounds) → IsCanonical x → IsCanonical y → Touch x y → (a b n : ℕ) → 0 < n
    → ZoneHolds (composed_of x y) a b n
    → HasHalfway x y a b n
halfway x y c d t a b n some h = halfway_in x y (composed_of x y) c d t (through x y) a b n some h

-- ---- and back

joins : (x y : ZoneBounds) (a c b n : ℕ) → 0 < n → ZoneHolds x a c n → ZoneHolds y c b n
    → ZoneHolds (composed_of x y) a b n
unfolding composed_of joined_of
joins x y a c b n some left right =
    let begin_low = (Meets-min x.begin_low (sum_of y.begin_low x.dur_high) 0 a n some).1
    (left.begin_low, Meets-sum _ _ 0 c a n right.begin_low left.dur_high) in
    let begin_high = (Meets-min x.begin_high (sum_of x.dur_low y.begin_high) a 0 n some).1
    (left.begin_high, Meets-sum _ _ a c 0 n left.dur_low right.begin_high) in
    let end_low = (Meets-min y.end_low (sum_of x.end_low y.dur_low) 0 b n some).1
    (right.end_low, Meets-sum _ _ 0 c b n left.end_low right.dur_low) in
    let end_high = (Meets-min y.end_high (sum_of y.dur_high x.end_high) b 0 n some).1
    (right.end_high, Meets-sum _ _ b c 0 n right.dur_high left.end_high) in
    record {
      begin_low = begin_low;
      begin_high = begin_high;
      end_low = end_low;
      end_high = end_high;
      dur_low = (Meets-min _ _ a b n some).1 (
        Meets-sum _ _ a c b n left.dur_low right.dur_low,
        Meets-sum _ _ a 0 b n begin_high end_low,
      );
      dur_high = (Meets-min _ _ b a n some).1 (
        Meets-sum _ _ b c a n right.dur_high left.dur_high,
        Meets-sum _ _ b 0 a n end_high begin_low,
      );
    }

pub Composed-holds : (x y : ZoneBounds) (a b n : ℕ) → 0 < n
    → Composed (ZoneHolds x) (ZoneHolds y) a b n → ZoneHolds (composed_of x y) a b n
Composed-holds x y a b n some h =
    (ZoneHolds-scale (composed_of x y) h.factor a b n h.positive).1
    (joins x y (h.factor * a) h.midpoint (h.factor * b) (h.factor * n)
    (mul-pos h.positive some) h.left h.right)

pub Composed-touch : (x y : ZoneBounds) (a b n : ℕ) → 0 < n
    → Composed (ZoneHolds x) (ZoneHolds y) a b n → Touch x y
Composed-touch x y a b n some h =
    let positive = mul-pos h.positive some in
    record {
      not_late = Meets-loop _ 0 (h.factor * n) positive
          (Meets-sum _ _ 0 h.midpoint 0 (h.factor * n) h.left.end_low h.right.begin_high);
      not_early = Meets-loop _ 0 (h.factor * n) positive
          (Meets-sum _ _ 0 h.midpoint 0 (h.factor * n) h.right.begin_low h.left.end_high);
    }

-- ---- the answers

pub touch-exact : (x y : ZoneBounds) → IsCanonical x → IsCanonical y → Touch x y
    → IsZoneOf (composed_of x y) (Composed (ZoneHolds x) (ZoneHolds y))
touch-exact x y c d t = record {
  exact = λ a b n some le. (
    (λ h.
        let half = halfway x y c d t a b n some h in
        record {
          factor = 2;
          positive = omega arith;
          midpoint = half.midpoint;
          left = half.left;
          right = half.right;
        }),
    (λ h. Composed-holds x y a b n some h),
  );
}

pub apart-never : (x y : ZoneBounds) → (Touch x y → ⊥)
    → HasNoPair (Composed (ZoneHolds x) (ZoneHolds y))
apart-never x y not_touch = record {
  never = λ a b n some le h.
      not_touch (Composed-touch x y a b n some h);
}

-- ---- a pair for each begin

record HasEnd (x : ZoneBounds) (a n : ℕ) : Type 0 where
  midpoint : ℕ
  there : ZoneHolds x (2 * a) midpoint (2 * n)

has_end : (x : ZoneBounds) → IsCanonical x → (a n : ℕ) → 0 < n → Meets x.begin_low 0 a n
    → Meets x.begin_high a 0 n → HasEnd x a n
has_end x c a n some begin_low begin_high =
    let g = greatest (pos (2 * 0) -ℤ reach_of x.end_low n) (pos (2 * a) -ℤ reach_of x.dur_low n)
    (pos (2 * 0) -ℤ reach_of x.end_low n) (pos (2 * a) -ℤ reach_of x.dur_low n) in
    let end = room x.end_low x.end_high 0 n some c.room.end_loop in
    let by = gap x.dur_low x.end_high a 0 n
    (Meets-looser _ _ a 0 n some c.closed.begin_high begin_high) in
    let by_end : g.top ≤ℤ (pos (2 * 0) +ℤ reach_of x.end_high n) = g.least _ end by end by in
    let way = gap x.end_low x.dur_high 0 a n
    (Meets-looser _ _ 0 a n some c.closed.begin_low begin_low) in
    let dur = room x.dur_low x.dur_high a n some c.room.dur_loop in
    let by_dur : g.top ≤ℤ (pos (2 * a) +ℤ reach_of x.dur_high n) = g.least _ way dur way dur in
    let at_least = g.second in
    let start = below_zero x.dur_low n c.framed.lasts in
    let e = pos-up g.top (omega (arith, ints)) in
    record {
      midpoint = up g.top;
      there = record {
        begin_low = (Meets-scale x.begin_low 2 0 a n (omega arith)).0 begin_low;
        begin_high = (Meets-scale x.begin_high 2 a 0 n (omega arith)).0 begin_high;
        end_low = Meets-reach x.end_low 0 (up g.top) n (omega (arith, ints, g.first));
        end_high = Meets-reach x.end_high (up g.top) 0 n (omega (arith, ints));
        dur_low = Meets-reach x.dur_low (2 * a) (up g.top) n (omega (arith, ints));
        dur_high = Meets-reach x.dur_high (up g.top) (2 * a) n (omega (arith, ints));
      };
    }

begun_at : (x : ZoneBounds) (a to n : ℕ) → ZoneHolds x a to n → ZoneHolds (begins_of x) a a n
unfolding begins_of
begun_at x a to n h = record {
  begin_low = h.begin_low;
  begin_high = h.begin_high;
  end_low = h.begin_low;
  end_high = h.begin_high;
  dur_low = own a n;
  dur_high = own a n;
}

begins_hold : (x : ZoneBounds) → IsCanonical x → (a b n : ℕ) → 0 < n
    → ZoneHolds (begins_of x) a b n → BeginsOf (ZoneHolds x) a b n
unfolding begins_of
begins_hold x c a b n some h =
    let le = (Meets-at_most (pos 1) 0 refl a b n).0 h.dur_low in
    let ge = (Meets-at_most (pos 1) 0 refl b a n).0 h.dur_high in
    let found = has_end x c a n some h.begin_low h.begin_high in
    record {
      same = omega arith;
      leads = record {
        factor = 2;
        positive = omega arith;
        to = found.midpoint;
        led = found.there;
      };
    }

pub begins-exact : (x : ZoneBounds) → IsCanonical x
    → IsZoneOf (begins_of x) (BeginsOf (ZoneHolds x))
begins-exact x c = record {
  exact = λ a b n some le. (
    (λ h. begins_hold x c a b n some h),
    (λ h.
        let k = h.leads.factor in
        let there = (ZoneHolds-scale (begins_of x) k a a n h.leads.positive).1
        (begun_at x (k * a) h.leads.to (k * n) h.leads.led) in
        subst (λ (t : ℕ). ZoneHolds (begins_of x) a t n) h.same there),
  );
}

begins_early : (x : ZoneBounds) → IsCanonical x → x.begin_high ≤ℤ pos (2 * TIME_MAX + 1)
unfolding sum_of
begins_early x c =
    let way = c.closed.begin_high in
    let lasts = c.framed.lasts in
    let ends = c.framed.ends in
    let low = split x.dur_low in
    let high = split x.end_high in
    omega (arith, ints)

pub begins-canonical : (x : ZoneBounds) → IsCanonical x → IsCanonical (begins_of x)
unfolding begins_of
begins-canonical x c = record {
  room = record {
    begin_loop = c.room.begin_loop;
    end_loop = c.room.begin_loop;
    dur_loop = le_sum_of-right (pos 1) (pos 1) (omega (arith, ints));
  };
  closed = record {
    begin_low = le_sum_of-right x.begin_low (pos 1) (omega (arith, ints));
    begin_high = le_sum_of-left x.begin_high (pos 1) (omega (arith, ints));
    end_low = le_sum_of-right x.begin_low (pos 1) (omega (arith, ints));
    end_high = le_sum_of-left x.begin_high (pos 1) (omega (arith, ints));
    dur_low = sum_of-swap _ _ c.room.begin_loop;
    dur_high = sum_of-swap _ _ c.room.begin_loop;
  };
  framed = record {
    starts = c.framed.starts;
    ends = begins_early x c;
    lasts = omega (arith, ints);
  };
}
