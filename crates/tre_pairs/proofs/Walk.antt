-- What crosses the end of a piece where only what ends before it enters.
use Rattle.std.proofs.Common.{ℕ, ◌*◌, ◌<◌, ◌≤◌, inl, inr, ⊎_elim, arith}
use Rattle.std.proofs.Math.Nat.{mul-pos}
use Rattle.std.proofs.lemmas.Bool.{cases_lt}
use Rattle.tre_pairs.specs.Cuts.{Crossing}
use Rattle.tre_pairs.specs.Pairs.{Pairs, Composed, Either}
use Rattle.tre_pairs.proofs.Chains.{Composed-assoc_left, Composed-assoc_right}
use Rattle.tre_pairs.proofs.CutLaws.{IsCut}
use Rattle.tre_pairs.proofs.Laws.{Scales, IsOrdered, Agree}
use Rattle.tre_pairs.proofs.Ticks.{le_down, ge_up, ge_down, gt_up, gt_down}
use Rattle.tre_pairs.specs.Before.{Before}

pub Scales-Before : (cut : ℕ) (R : Pairs) → Scales R → Scales (Before cut R)
Scales-Before cut R r = record {
  up = λ k a b n pos h. record {
    related = r.up k a b n pos h.related;
    early = gt_up k cut b n pos h.early;
  };
  down = λ k a b n pos h. record {
    related = r.down k a b n pos h.related;
    early = gt_down k cut b n h.early;
  };
}

-- Of a sequence, whose first part goes on as G: the second is entered by what ends before the cut.
pub cross_sequence : (cut : ℕ) (G X U V : Pairs) → IsCut cut X U V → IsOrdered X
    → ((a b n : ℕ) → 0 < n → G a b n → a ≤ cut * n)
    → Agree (Crossing cut (Composed G X))
    (Either (Composed (Crossing cut G) V) (Crossing cut (Composed (Before cut G) X)))
cross_sequence cut G X U V parts ordered begins = record {
  at = λ a b n some. (
    (λ h.
        let k = h.related.factor in
        let m = h.related.midpoint in
        let finer : 0 < k * n = mul-pos h.related.positive some in
        ⊎_elim
        (λ before. inr (record {
          related = record {
            factor = k;
            positive = h.related.positive;
            midpoint = m;
            left = record { related = h.related.left; early = before };
            right = h.related.right;
          };
          begin = h.begin;
          end = h.end;
        }))
        (λ late. inl (record {
          factor = k;
          positive = h.related.positive;
          midpoint = m;
          left = record {
            related = h.related.left;
            begin = ge_up k cut a n h.begin;
            end = late;
          };
          right = parts.late.at m (k * b) (k * n) finer late h.related.right;
        }))
        (cases_lt m (cut * (k * n)))),
    (λ h. ⊎_elim
        (λ x.
        let behind = parts.behind.at x.midpoint (x.factor * b) (x.factor * n) x.right in
        let rising = ordered.le x.midpoint (x.factor * b) (x.factor * n) behind in
        let end = x.left.end in
        record {
          related = record {
            factor = x.factor;
            positive = x.positive;
            midpoint = x.midpoint;
            left = x.left.related;
            right = behind;
          };
          begin = ge_down x.factor cut a n x.positive x.left.begin;
          end = le_down x.factor cut b n x.positive (omega (arith, end, rising));
        })
        (λ x. record {
          related = record {
            factor = x.related.factor;
            positive = x.related.positive;
            midpoint = x.related.midpoint;
            left = x.related.left.related;
            right = x.related.right;
          };
          begin = x.begin;
          end = x.end;
        })
        h),
  );
}

-- One instance: the pairs of O, which it began behind, end before the piece begins, and what had
-- begun of its body begins before; what enters ends in the piece, and the body begins there. So it
-- takes in the new ones, and nothing mixes.
pub one_instance : (cut : ℕ) (O E M N : Pairs)
    → ((a b n : ℕ) → 0 < n → O a b n → b < cut * n)
    → ((a b n : ℕ) → 0 < n → E a b n → cut * n ≤ b)
    → ((a b n : ℕ) → 0 < n → M a b n → a < cut * n)
    → ((a b n : ℕ) → 0 < n → N a b n → cut * n ≤ a)
    → Agree (Composed (Either O E) (Either M N)) (Either (Composed O M) (Composed E N))
one_instance cut O E M N old new began begins = record {
  at = λ a b n some. (
    (λ h.
        let k = h.factor in
        let m = h.midpoint in
        let finer : 0 < k * n = mul-pos h.positive some in
        ⊎_elim
        (λ o. ⊎_elim
        (λ x. inl (record { factor = k; positive = h.positive; midpoint = m; left = o; right = x }))
        (λ y.
        let early = old (k * a) m (k * n) finer o in
        let late = begins m (k * b) (k * n) finer y in
        absurd (omega (arith, early, late))) h.right)
        (λ e. ⊎_elim
        (λ x.
        let late = new (k * a) m (k * n) finer e in
        let early = began m (k * b) (k * n) finer x in
        absurd (omega (arith, early, late)))
        (λ y. inr (record { factor = k; positive = h.positive; midpoint = m; left = e; right = y }))
        h.right)
        h.left),
    (λ h. ⊎_elim
        (λ x. record {
          factor = x.factor;
          positive = x.positive;
          midpoint = x.midpoint;
          left = inl x.left;
          right = inl x.right;
        })
        (λ x. record {
          factor = x.factor;
          positive = x.positive;
          midpoint = x.midpoint;
          left = inr x.left;
          right = inr x.right;
        }) h),
  );
}

-- The same of all that goes on: M and N had begun of the first and of the second, and E enters.
module _ (cut : ℕ) (M N E X Y U V : Pairs) (se : Scales E) (sy : Scales Y) (parts : IsCut cut Y U V)
    (ordered : IsOrdered Y)
    (begins : (a b n : ℕ) → 0 < n → Either M (Composed E X) a b n → a ≤ cut * n) where
  abbrev Front : Pairs
  Front = Either M (Composed E X)

  abbrev Whole : Pairs
  Whole = Either (Either (Composed M Y) N) (Composed E (Composed X Y))

  front_law : Agree (Crossing cut (Composed Front Y))
      (Either (Composed (Crossing cut Front) V) (Crossing cut (Composed (Before cut Front) Y)))
  front_law = cross_sequence cut Front Y U V parts ordered begins

  widen : (a b n : ℕ) → Composed Front Y a b n → Whole a b n
  widen a b n h = ⊎_elim
      (λ m. inl (inl (record { factor = h.factor; positive = h.positive; midpoint = h.midpoint; left = m; right = h.right })))
      (λ e. inr (Composed-assoc_right E X Y sy a b n (record { factor = h.factor; positive = h.positive; midpoint = h.midpoint; left = e; right = h.right })))
      h.left

  narrow : (a b n : ℕ) → 0 < n → Crossing cut (Composed Front Y) a b n
      → Either (Composed (Crossing cut Front) V)
      (Crossing cut (Either N (Composed (Before cut Front) Y))) a b n
  narrow a b n some h = ⊎_elim (λ p. inl p)
      (λ s. inr (record { related = inr s.related; begin = s.begin; end = s.end }))
      ((front_law.at a b n some).0 h)

  pub sequence_goes : Agree
      (Either (Composed (Crossing cut Front) V)
      (Crossing cut (Either N (Composed (Before cut Front) Y))))
      (Crossing cut Whole)
  sequence_goes = record {
    at = λ a b n some. (
      (λ h. ⊎_elim
          (λ p.
          let c = (front_law.at a b n some).1 (inl p) in
          record { related = widen a b n c.related; begin = c.begin; end = c.end })
          (λ q. ⊎_elim
          (λ m. record { related = inl (inr m); begin = q.begin; end = q.end })
          (λ s.
          let c = (front_law.at a b n some).1
          (inr (record { related = s; begin = q.begin; end = q.end })) in
          record { related = widen a b n c.related; begin = c.begin; end = c.end })
          q.related) h),
      (λ c. ⊎_elim
          (λ m. ⊎_elim
          (λ p. narrow a b n some (record {
            related = (record { factor = p.factor; positive = p.positive; midpoint = p.midpoint; left = inl p.left; right = p.right });
            begin = c.begin;
            end = c.end;
          }))
          (λ q. inr (record { related = inl q; begin = c.begin; end = c.end })) m)
          (λ e.
          let g = Composed-assoc_left E X Y se a b n e in
          narrow a b n some (record {
            related = (record { factor = g.factor; positive = g.positive; midpoint = g.midpoint; left = inr g.left; right = g.right });
            begin = c.begin;
            end = c.end;
          })) c.related),
    );
  }
