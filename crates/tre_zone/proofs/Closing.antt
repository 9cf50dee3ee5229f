-- The closure of six bounds: it holds the same pairs, and is canonical where it is not empty.
use Rattle.std.proofs.Common.{◌*◌, ℕ, ◌+◌, ◌<◌, ◌↔◌, refl, arith, ℤ, pos, ◌≤ℤ◌, rules}
use Rattle.std.specs.Int.{int_min}
use Rattle.tre_pairs.specs.Pairs.{Both}
use Rattle.tre_pairs.specs.declared.TheConstants.{TIME_MAX}
use Rattle.tre_zone.specs.Bound.{sum_of}
use Rattle.tre_zone.specs.Zone.{IsFramed, LeavesRoom, ZoneHolds, IsCanonical, IsInFrame}
use Rattle.tre_zone.specs.Closing.{framed_of, closed_of, tighter_of}
use Rattle.tre_zone.specs.declared.zone_bounds.ZoneBounds.{ZoneBounds}
use Rattle.tre_zone.proofs.Bounds.{Meets-at_most}
use Rattle.tre_zone.proofs.Paths.{Meets-min, Meets-sum, Meets-loop, int_min-case, int_min-left, int_min-right}
use Rattle.tre_zone.proofs.Sums.{sum_of-comm, sum_of-assoc, sum_of-le, le_sum_of-right, le_trans, sum_of-swap}

-- ---- the same pairs

pub closed-holds : (zone : ZoneBounds) (a b n : ℕ) → 0 < n
    → ZoneHolds (closed_of zone) a b n ↔ ZoneHolds zone a b n
unfolding closed_of
closed-holds zone a b n some = search (rules, Meets-min, Meets-sum)

pub framed-holds : (zone : ZoneBounds) (a b n : ℕ) → 0 < n
    → ZoneHolds (framed_of zone) a b n ↔ Both (ZoneHolds zone) (IsInFrame (TIME_MAX)) a b n
unfolding framed_of
framed-holds zone a b n some =
    let starts = Meets-at_most (pos 1) 0 refl 0 a n in
    let ends = Meets-at_most (pos (2 * TIME_MAX + 1)) (TIME_MAX) refl b 0 n in
    let lasts = Meets-at_most (pos 1) 0 refl a b n in (
      (λ h.
          let begin_low = (Meets-min zone.begin_low (pos 1) 0 a n some).0 h.begin_low in
          let end_high = (Meets-min zone.end_high (pos (2 * TIME_MAX + 1)) b 0 n some).0 h.end_high
          in
          let dur_low = (Meets-min zone.dur_low (pos 1) a b n some).0 h.dur_low in
          record {
            left = record {
              begin_low = begin_low.0;
              begin_high = h.begin_high;
              end_low = h.end_low;
              end_high = end_high.0;
              dur_low = dur_low.0;
              dur_high = h.dur_high;
            };
            right = record {
              rising = omega (arith, lasts.0 dur_low.1);
              ends =
                  omega (arith, ends.0 end_high.1);
            };
          }),
      (λ h. record {
        begin_low = (Meets-min zone.begin_low (pos 1) 0 a n some).1
            (h.left.begin_low, starts.1 (omega arith));
        begin_high = h.left.begin_high;
        end_low = h.left.end_low;
        end_high = (Meets-min zone.end_high (pos (2 * TIME_MAX + 1)) b 0 n some).1
            (h.left.end_high, ends.1 (omega (arith, h.right.ends)));
        dur_low = (Meets-min zone.dur_low (pos 1) a b n some).1
            (h.left.dur_low, lasts.1 (omega (arith, h.right.rising)));
        dur_high = h.left.dur_high;
      }),
    )

pub tighter-holds : (one other : ZoneBounds) (a b n : ℕ) → 0 < n
    → ZoneHolds (tighter_of one other) a b n ↔ Both (ZoneHolds one) (ZoneHolds other) a b n
unfolding tighter_of
tighter-holds one other a b n some = search (rules, Meets-min)

-- ---- where there is a pair, no loop is below zero

pub holds-loops : (zone : ZoneBounds) (a b n : ℕ) → 0 < n → ZoneHolds zone a b n → LeavesRoom zone
holds-loops zone a b n some h = record {
  begin_loop = Meets-loop _ 0 n some (Meets-sum _ _ 0 a 0 n h.begin_low h.begin_high);
  end_loop = Meets-loop _ 0 n some (Meets-sum _ _ 0 b 0 n h.end_low h.end_high);
  dur_loop = Meets-loop _ a n some (Meets-sum _ _ a b a n h.dur_low h.dur_high);
}

-- ---- one round over three times is enough

-- The keys of the bounds between three times i, j and k, each way; the premises speak of the closed
-- keys.
triangle : (ij ji ik ki jk kj : ℤ)
    → pos 1 ≤ℤ sum_of (int_min ij (sum_of ik kj)) (int_min ji (sum_of jk ki))
    → pos 1 ≤ℤ sum_of (int_min ik (sum_of ij jk)) (int_min ki (sum_of kj ji))
    → pos 1 ≤ℤ sum_of (int_min jk (sum_of ji ik)) (int_min kj (sum_of ki ij))
    → int_min ij (sum_of ik kj) ≤ℤ sum_of (int_min ik (sum_of ij jk)) (int_min kj (sum_of ki ij))
triangle ij ji ik ki jk kj loop_ij loop_ik loop_jk =
    let direct : int_min ij (sum_of ik kj) ≤ℤ ij = int_min-left ij (sum_of ik kj) in
    let ik_loop : pos 1 ≤ℤ sum_of ik ki =
    le_trans _ _ _ loop_ik (sum_of-le _ _ _ _ (int_min-left ik (sum_of ij jk))
    (int_min-left ki (sum_of kj ji))) in
    let jk_loop : pos 1 ≤ℤ sum_of jk kj =
    le_trans _ _ _ loop_jk (sum_of-le _ _ _ _ (int_min-left jk (sum_of ji ik))
    (int_min-left kj (sum_of ki ij))) in
    let whole_loop : pos 1 ≤ℤ sum_of ij (sum_of jk ki) =
    le_trans _ _ _ loop_ij (sum_of-le _ _ _ _ (int_min-left ij (sum_of ik kj))
    (int_min-right ji (sum_of jk ki))) in
    let around : pos 1 ≤ℤ sum_of (sum_of jk ki) ij =
    rw (sum_of-comm (sum_of jk ki) ij) whole_loop in
    int_min-case (λ x. int_min ij (sum_of ik kj) ≤ℤ sum_of x (int_min kj (sum_of ki ij))) ik
    (sum_of ij jk)
    (λ h. int_min-case (λ y. int_min ij (sum_of ik kj) ≤ℤ sum_of ik y) kj (sum_of ki ij)
    (λ k. int_min-right ij (sum_of ik kj))
    (λ k. rw (← sum_of-assoc ik ki ij) (rw (sum_of-comm (sum_of ik ki) ij)
    (le_trans _ _ _ direct (le_sum_of-right ij (sum_of ik ki) ik_loop)))))
    (λ h. int_min-case (λ y. int_min ij (sum_of ik kj) ≤ℤ sum_of (sum_of ij jk) y) kj (sum_of ki ij)
    (λ k. rw (sum_of-assoc ij jk kj) (le_trans _ _ _ direct
    (le_sum_of-right ij (sum_of jk kj) jk_loop)))
    (λ k. rw (sum_of-assoc ij jk (sum_of ki ij), ← sum_of-assoc jk ki ij)
    (le_trans _ _ _ direct (le_sum_of-right ij (sum_of (sum_of jk ki) ij) around))))

pub closed-canonical : (z : ZoneBounds) → IsFramed z → LeavesRoom (closed_of z)
    → IsCanonical (closed_of z)
unfolding closed_of
closed-canonical z framed loops =
    search (rules, sum_of-swap, triangle, le_trans, int_min-left, sum_of, loops.begin_loop)

pub framed-framed : (zone : ZoneBounds) → IsFramed (framed_of zone)
unfolding framed_of
framed-framed zone = search rules
