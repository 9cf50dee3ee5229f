-- The composed bounds of canonical zones that touch are canonical.
use Rattle.std.proofs.Common.{◌≡◌, ◌^◌, refl, subst, arith, ℤ, pos, ◌≤ℤ◌}
use Rattle.std.proofs.lemmas.Int.{ints, clamps}
use Rattle.std.specs.Int.{int_min}
use Rattle.tre_zone.specs.Bound.{sum_of, IsKeyWithin}
use Rattle.tre_zone.specs.Zone.{IsCanonical, IsFramed, LeavesRoom}
use Rattle.tre_zone.specs.Closing.{closed_of}
use Rattle.tre_zone.specs.declared.zone_bounds.ZoneBounds.{ZoneBounds}
use Rattle.tre_zone.proofs.Bounds.{split, split-sum}
use Rattle.tre_zone.proofs.Closing.{closed-canonical}
use Rattle.tre_zone.proofs.Paths.{int_min-case, int_min-left, int_min-right}
use Rattle.tre_zone.proofs.Sums.{sum_of-comm, sum_of-assoc, sum_of-le, le_sum_of-right, le_trans, le_sum_of-left, sum_of-swap}
use Rattle.tre_zone.proofs.ZoneKeys.{zones_same}
use Rattle.tre_compose.specs.Composition.{Touch, joined_of, composed_of}

le_refl : (x : ℤ) → x ≤ℤ x
le_refl x = omega (arith, ints)

sum_left : (x x' y : ℤ) → x ≤ℤ x' → sum_of x y ≤ℤ sum_of x' y
sum_left x x' y h = sum_of-le x x' y y h (le_refl y)

sum_right : (x y y' : ℤ) → y ≤ℤ y' → sum_of x y ≤ℤ sum_of x y'
sum_right x y y' h = sum_of-le x x y y' (le_refl x) h

-- ---- one side of the moment: the bounds u and U on a time, v and V on the moment, and e and f on
-- the way between them, from the moment to the time and back

-- The bound on the time by way of the moment, and then back to the moment: no tighter than the
-- bounds on the moment.
there_and_back : (low u v e f through : ℤ) → pos 1 ≤ℤ sum_of e f → low ≤ℤ v → low ≤ℤ through
    → through ≤ℤ sum_of u f
    → low ≤ℤ sum_of (int_min u (sum_of v e)) f
there_and_back low u v e f through loop lv lt over =
    int_min-case (λ k. low ≤ℤ sum_of k f) u (sum_of v e)
    (λ h. le_trans _ _ _ lt over)
    (λ h. rw (sum_of-assoc v e f) (le_trans _ _ _ lv (le_sum_of-right v (sum_of e f) loop)))

-- The same the other way round.
back_and_there : (high u v e f through : ℤ) → pos 1 ≤ℤ sum_of e f → high ≤ℤ v → high ≤ℤ through
    → through ≤ℤ sum_of e u
    → high ≤ℤ sum_of e (int_min u (sum_of f v))
back_and_there high u v e f through loop hv ht over =
    int_min-case (λ k. high ≤ℤ sum_of e k) u (sum_of f v)
    (λ h. le_trans _ _ _ ht over)
    (λ h. rw (← sum_of-assoc e f v) (le_trans _ _ _ hv (le_sum_of-left v (sum_of e f) loop)))

-- A time has room between its two bounds.
side_loop : (u U v V e f low high : ℤ) → pos 1 ≤ℤ sum_of u U → pos 1 ≤ℤ sum_of v V
    → pos 1 ≤ℤ sum_of e f
    → low ≤ℤ sum_of u f → pos 1 ≤ℤ sum_of low V → high ≤ℤ sum_of e U → pos 1 ≤ℤ sum_of v high
    → pos 1 ≤ℤ sum_of (int_min u (sum_of v e)) (int_min U (sum_of f V))
side_loop u U v V e f low high own moment way under low_loop over high_loop =
    int_min-case (λ k. pos 1 ≤ℤ sum_of k (int_min U (sum_of f V))) u (sum_of v e)
    (λ h. int_min-case (λ k. pos 1 ≤ℤ sum_of u k) U (sum_of f V)
    (λ i. own)
    (λ i. rw (← sum_of-assoc u f V) (le_trans _ _ _ low_loop (sum_left low (sum_of u f) V under))))
    (λ h. int_min-case (λ k. pos 1 ≤ℤ sum_of (sum_of v e) k) U (sum_of f V)
    (λ i. rw (sum_of-assoc v e U) (le_trans _ _ _ high_loop (sum_right v high (sum_of e U) over)))
    (λ i. rw (sum_of-assoc v e (sum_of f V), ← sum_of-assoc e f V)
    (le_trans _ _ _ moment (sum_right v V (sum_of (sum_of e f) V)
    (le_sum_of-left V (sum_of e f) way)))))

-- ---- the durations

-- From t to the moment and on to t', and then back by way of 0 and the moment.
dur_loop : (xl xh yl yh bl bh el eh low high : ℤ)
    → pos 1 ≤ℤ sum_of xl xh → pos 1 ≤ℤ sum_of yl yh → pos 1 ≤ℤ sum_of bl bh → pos 1 ≤ℤ sum_of el eh
    → pos 1 ≤ℤ sum_of low high
    → low ≤ℤ sum_of bl xl → high ≤ℤ sum_of xh bh → low ≤ℤ sum_of el yh → high ≤ℤ sum_of yl eh
    → pos 1 ≤ℤ sum_of (int_min (sum_of xl yl) (sum_of bh el))
    (int_min (sum_of yh xh) (sum_of eh bl))
dur_loop xl xh yl yh bl bh el eh low high x_loop y_loop begin_loop end_loop moment f1 f2 f3 f4 =
    int_min-case (λ k. pos 1 ≤ℤ sum_of k (int_min (sum_of yh xh) (sum_of eh bl))) (sum_of xl yl)
    (sum_of bh el)
    (λ h. int_min-case (λ k. pos 1 ≤ℤ sum_of (sum_of xl yl) k) (sum_of yh xh) (sum_of eh bl)
    (λ i. rw (sum_of-assoc xl yl (sum_of yh xh), ← sum_of-assoc yl yh xh)
    (le_trans _ _ _ x_loop (sum_right xl xh (sum_of (sum_of yl yh) xh)
    (le_sum_of-left xh (sum_of yl yh) y_loop))))
    (λ i. rw (
      sum_of-assoc xl yl (sum_of eh bl),
      ← sum_of-assoc yl eh bl,
      sum_of-comm xl
          (sum_of (sum_of yl eh) bl),
      sum_of-assoc (sum_of yl eh) bl xl,
    )
    (le_trans _ _ _ (sum_of-swap low high moment)
    (sum_of-le high (sum_of yl eh) low (sum_of bl xl) f4 f1))))
    (λ h. int_min-case (λ k. pos 1 ≤ℤ sum_of (sum_of bh el) k) (sum_of yh xh) (sum_of eh bl)
    (λ i. rw (
      sum_of-assoc bh el (sum_of yh xh),
      ← sum_of-assoc el yh xh,
      sum_of-comm bh
          (sum_of (sum_of el yh) xh),
      sum_of-assoc (sum_of el yh) xh bh,
    )
    (le_trans _ _ _ moment (sum_of-le low (sum_of el yh) high (sum_of xh bh) f3 f2)))
    (λ i. rw (sum_of-assoc bh el (sum_of eh bl), ← sum_of-assoc el eh bl)
    (le_trans _ _ _ (sum_of-swap bl bh begin_loop)
    (sum_right bh bl (sum_of (sum_of el eh) bl) (le_sum_of-left bl (sum_of el eh) end_loop)))))

-- ---- together

min_is_left : (x y : ℤ) → x ≤ℤ y → x ≡ int_min x y
min_is_left x y h = omega (arith, ints, clamps)

-- The bounds on the moment, tightened by both zones, in which the four sides meet.
record Sides (x y : ZoneBounds) : Type 0 where
  low : ℤ
  high : ℤ
  room : pos 1 ≤ℤ sum_of low high
  from_begin : low ≤ℤ sum_of (joined_of x y).begin_low x.dur_low
  to_begin : high ≤ℤ sum_of x.dur_high (joined_of x y).begin_high
  from_end : low ≤ℤ sum_of (joined_of x y).end_low y.dur_high
  to_end : high ≤ℤ sum_of y.dur_low (joined_of x y).end_high
  begin_low : (joined_of x y).begin_low ≤ℤ sum_of low x.dur_high
  begin_high : (joined_of x y).begin_high ≤ℤ sum_of x.dur_low high
  end_low : (joined_of x y).end_low ≤ℤ sum_of low y.dur_low
  end_high : (joined_of x y).end_high ≤ℤ sum_of y.dur_high high
  begin_loop : pos 1 ≤ℤ sum_of (joined_of x y).begin_low (joined_of x y).begin_high
  end_loop : pos 1 ≤ℤ sum_of (joined_of x y).end_low (joined_of x y).end_high

sides : (x y : ZoneBounds) → IsCanonical x → IsCanonical y → Touch x y → Sides x y
unfolding joined_of
sides x y c d t =
    let low_x = int_min-left x.end_low y.begin_low in
    let low_y = int_min-right x.end_low y.begin_low in
    let high_x = int_min-left x.end_high y.begin_high in
    let high_y = int_min-right x.end_high y.begin_high in
    record {
      low = int_min x.end_low y.begin_low;
      high = int_min x.end_high y.begin_high;
      room =
          int_min-case (λ k. pos 1 ≤ℤ sum_of k (int_min x.end_high y.begin_high)) x.end_low
          y.begin_low
          (λ h. int_min-case (λ k. pos 1 ≤ℤ sum_of x.end_low k) x.end_high y.begin_high
          (λ i. c.room.end_loop) (λ i. t.not_late))
          (λ h. int_min-case (λ k. pos 1 ≤ℤ sum_of y.begin_low k) x.end_high y.begin_high
          (λ i. t.not_early) (λ i. d.room.begin_loop));
      from_begin = there_and_back _ x.begin_low y.begin_low x.dur_high x.dur_low x.end_low
          (sum_of-swap _ _ c.room.dur_loop) low_y low_x c.closed.end_low;
      to_begin = back_and_there _ x.begin_high y.begin_high x.dur_high x.dur_low x.end_high
          (sum_of-swap _ _ c.room.dur_loop) high_y high_x c.closed.end_high;
      from_end = there_and_back _ y.end_low x.end_low y.dur_low y.dur_high y.begin_low
          d.room.dur_loop low_x low_y d.closed.begin_low;
      to_end = back_and_there _ y.end_high x.end_high y.dur_low y.dur_high y.begin_high
          d.room.dur_loop high_x high_y d.closed.begin_high;
      begin_low =
          int_min-case (λ k. int_min x.begin_low
          (sum_of y.begin_low x.dur_high) ≤ℤ sum_of k x.dur_high) x.end_low y.begin_low
          (λ h. le_trans _ _ _ (int_min-left x.begin_low (sum_of y.begin_low x.dur_high))
          c.closed.begin_low)
          (λ h. int_min-right x.begin_low (sum_of y.begin_low x.dur_high));
      begin_high =
          int_min-case (λ k. int_min x.begin_high
          (sum_of x.dur_low y.begin_high) ≤ℤ sum_of x.dur_low k) x.end_high y.begin_high
          (λ h. le_trans _ _ _ (int_min-left x.begin_high (sum_of x.dur_low y.begin_high))
          c.closed.begin_high)
          (λ h. int_min-right x.begin_high (sum_of x.dur_low y.begin_high));
      end_low =
          int_min-case (λ k. int_min y.end_low (sum_of x.end_low y.dur_low) ≤ℤ sum_of k y.dur_low)
          x.end_low y.begin_low
          (λ h. int_min-right y.end_low (sum_of x.end_low y.dur_low))
          (λ h. le_trans _ _ _ (int_min-left y.end_low (sum_of x.end_low y.dur_low))
          d.closed.end_low);
      end_high =
          int_min-case (λ k. int_min y.end_high
          (sum_of y.dur_high x.end_high) ≤ℤ sum_of y.dur_high k) x.end_high y.begin_high
          (λ h. int_min-right y.end_high (sum_of y.dur_high x.end_high))
          (λ h. le_trans _ _ _ (int_min-left y.end_high (sum_of y.dur_high x.end_high))
          d.closed.end_high);
      begin_loop =
          side_loop x.begin_low x.begin_high y.begin_low y.begin_high x.dur_high x.dur_low
          x.end_low x.end_high
          c.room.begin_loop d.room.begin_loop
          (sum_of-swap _ _ c.room.dur_loop) c.closed.end_low t.not_late c.closed.end_high
          t.not_early;
      end_loop =
          side_loop y.end_low y.end_high x.end_low x.end_high y.dur_low y.dur_high y.begin_low
          y.begin_high
          d.room.end_loop c.room.end_loop d.room.dur_loop d.closed.begin_low t.not_early
          d.closed.begin_high t.not_late;
    }

-- The closure of the joined bounds changes durations alone.
composed-closed : (x y : ZoneBounds) → Sides x y → composed_of x y ≡ closed_of (joined_of x y)
unfolding composed_of joined_of closed_of
composed-closed x y s =
    zones_same _ _
    (min_is_left _ _ (rw (← sum_of-assoc (joined_of x y).end_low y.dur_high x.dur_high)
    (le_trans _ _ _ s.begin_low (sum_left _ _ x.dur_high s.from_end))))
    (min_is_left _ _ (rw (sum_of-assoc x.dur_low y.dur_low (joined_of x y).end_high)
    (le_trans _ _ _ s.begin_high (sum_right x.dur_low _ _ s.to_end))))
    (min_is_left _ _ (rw (← sum_of-assoc (joined_of x y).begin_low x.dur_low y.dur_low)
    (le_trans _ _ _ s.end_low (sum_left _ _ y.dur_low s.from_begin))))
    (min_is_left _ _ (rw (sum_of-assoc y.dur_high x.dur_high (joined_of x y).begin_high)
    (le_trans _ _ _ s.end_high (sum_right y.dur_high _ _ s.to_begin))))
    refl refl

at_most_zero : (x y : ℤ) → x ≤ℤ pos 1 → y ≤ℤ pos 1 → sum_of x y ≤ℤ pos 1
at_most_zero x y h k = let a = split x in let b = split y in let c = split-sum x y in
    omega (arith, ints)

joined-framed : (x y : ZoneBounds) → IsCanonical x → IsCanonical y → IsFramed (joined_of x y)
unfolding joined_of
joined-framed x y c d = record {
  starts = le_trans _ _ _ (int_min-left x.begin_low (sum_of y.begin_low x.dur_high))
      c.framed.starts;
  ends = le_trans _ _ _ (int_min-left y.end_high (sum_of y.dur_high x.end_high)) d.framed.ends;
  lasts = at_most_zero x.dur_low y.dur_low c.framed.lasts d.framed.lasts;
}

composed-room : (x y : ZoneBounds) → IsCanonical x → IsCanonical y → Sides x y
    → LeavesRoom (composed_of x y)
unfolding composed_of joined_of
composed-room x y c d s = record {
  begin_loop = s.begin_loop;
  end_loop = s.end_loop;
  dur_loop =
      dur_loop x.dur_low x.dur_high y.dur_low y.dur_high _ _ _ _ s.low s.high c.room.dur_loop
      d.room.dur_loop s.begin_loop s.end_loop s.room
      s.from_begin s.to_begin s.from_end s.to_end;
}

pub composed-canonical : (x y : ZoneBounds) → IsCanonical x → IsCanonical y → Touch x y
    → IsCanonical (composed_of x y)
composed-canonical x y c d t =
    let s = sides x y c d t in
    rw (composed-closed x y s)
    (closed-canonical (joined_of x y) (joined-framed x y c d)
    (subst LeavesRoom (composed-closed x y s) (composed-room x y c d s)))

-- ---- keys within limits

pub no_looser-key : (direct left right : ℤ) → IsKeyWithin (2 ^ 42) direct
    → IsKeyWithin (2 ^ 42) left → IsKeyWithin (2 ^ 42) right
    → IsKeyWithin (2 ^ 44) (int_min direct (sum_of left right))
unfolding sum_of
no_looser-key direct left right h k l =
    let small = (split left).small in
    let little = (split right).small in
    record {
      low = omega (arith, ints, clamps, h.low, k.low, l.low);
      high = omega (arith, ints, clamps, h.high);
    }
