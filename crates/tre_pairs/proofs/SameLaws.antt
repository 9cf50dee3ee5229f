-- What the operators make of relations that relate the same pairs of the durations that count.
use Rattle.std.proofs.Common.{ℕ, ◌-◌, ◌*◌, ◌<◌, ◌≤◌, inl, inr, ⊎_elim, arith, rules}
use Rattle.std.proofs.Math.Nat.{mul-pos}
use Rattle.tre_pairs.specs.Cuts.{Crossing}
use Rattle.tre_pairs.specs.Pairs.{Pairs, Composed, Either, Both, Lasting}
use Rattle.tre_pairs.proofs.Laws.{DurationScales, IsOrdered, Agree}
use Rattle.tre_pairs.proofs.Shortening.{IsDownward, finer_duration}
use Rattle.tre_pairs.specs.Before.{Before}
use Rattle.tre_pairs.specs.Same.{Same}

module _ (D : ℕ → ℕ → Type 0) where
  pub same_refl : (R : Pairs) → Same D R R
  same_refl R = record { at = λ a b n some short. ((λ h. h), (λ h. h)) }

  pub same_agree : (R S : Pairs) → Agree R S → Same D R S
  same_agree R S r = record { at = λ a b n some short. r.at a b n some }

  pub same_back : (R S : Pairs) → Same D R S → Same D S R
  same_back R S r = record {
    at = λ a b n some short. ((r.at a b n some short).1, (r.at a b n some short).0);
  }

  pub same_trans : (R S T : Pairs) → Same D R S → Same D S T → Same D R T
  same_trans R S T r s = record {
    at = λ a b n some short. (
      (λ h. (s.at a b n some short).0 ((r.at a b n some short).0 h)),
      (λ h. (r.at a b n some short).1 ((s.at a b n some short).1 h)),
    );
  }

  module _ (R R' : Pairs) (r : Same D R R') where
    pub same_crossing : (cut : ℕ) → Same D (Crossing cut R) (Crossing cut R')
    same_crossing cut = record {
      at = λ a b n some short. (
        (λ h. record { related = (r.at a b n some short).0 h.related; begin = h.begin; end = h.end }),
        (λ h. record { related = (r.at a b n some short).1 h.related; begin = h.begin; end = h.end }),
      );
    }

    pub same_before : (cut : ℕ) → Same D (Before cut R) (Before cut R')
    same_before cut = record {
      at = λ a b n some short. (
        (λ h. record { related = (r.at a b n some short).0 h.related; early = h.early }),
        (λ h. record { related = (r.at a b n some short).1 h.related; early = h.early }),
      );
    }

    pub same_lasting : (A : ℕ → ℕ → Type 0) → Same D (Lasting A R) (Lasting A R')
    same_lasting A = record {
      at = λ a b n some short. (
        (λ h. record { related = (r.at a b n some short).0 h.related; admitted = h.admitted }),
        (λ h. record { related = (r.at a b n some short).1 h.related; admitted = h.admitted }),
      );
    }

  module _ (R R' S S' : Pairs) (r : Same D R R') (s : Same D S S') where
    pub same_either : Same D (Either R S) (Either R' S')
    same_either = record {
      at = λ a b n some short. (
        (λ h. ⊎_elim (λ x. inl ((r.at a b n some short).0 x)) (λ x. inr ((s.at a b n some short).0 x)) h),
        (λ h. ⊎_elim (λ x. inl ((r.at a b n some short).1 x)) (λ x. inr ((s.at a b n some short).1 x)) h),
      );
    }

    pub same_both : Same D (Both R S) (Both R' S')
    same_both = record {
      at = λ a b n some short. (
        (λ h. record { left = (r.at a b n some short).0 h.left; right = (s.at a b n some short).0 h.right }),
        (λ h. record { left = (r.at a b n some short).1 h.left; right = (s.at a b n some short).1 h.right }),
      );
    }

  -- One after the other: each lasts no longer than both.
  module _ (down : IsDownward D) (scales : DurationScales D) (R R' S S' : Pairs)
      (ro : IsOrdered R) (ro' : IsOrdered R') (so : IsOrdered S) (so' : IsOrdered S')
      (r : Same D R R') (s : Same D S S') where
    pub same_composed : Same D (Composed R S) (Composed R' S')
    same_composed = record {
      at = λ a b n some short. (
        (λ h.
            let k = h.factor in
            let m = h.midpoint in
            let finer = mul-pos h.positive some in
            let whole = finer_duration D down scales k a b n h.positive short in
            let first = ro.le (k * a) m (k * n) h.left in
            let second = so.le m (k * b) (k * n) h.right in
            record {
              factor = k;
              positive = h.positive;
              midpoint = m;
              left = (r.at (k * a) m (k * n) finer (down.at (m - k * a) (k * b - k * a) (k * n)
                  (omega (arith, first, second)) whole)).0 h.left;
              right = (s.at m (k * b) (k * n) finer (down.at (k * b - m) (k * b - k * a) (k * n)
                  (omega (arith, first, second)) whole)).0 h.right;
            }),
        (λ h.
            let k = h.factor in
            let m = h.midpoint in
            let finer = mul-pos h.positive some in
            let whole = finer_duration D down scales k a b n h.positive short in
            let first = ro'.le (k * a) m (k * n) h.left in
            let second = so'.le m (k * b) (k * n) h.right in
            record {
              factor = k;
              positive = h.positive;
              midpoint = m;
              left = (r.at (k * a) m (k * n) finer (down.at (m - k * a) (k * b - k * a) (k * n)
                  (omega (arith, first, second)) whole)).1 h.left;
              right = (s.at m (k * b) (k * n) finer (down.at (k * b - m) (k * b - k * a) (k * n)
                  (omega (arith, first, second)) whole)).1 h.right;
            }),
      );
    }
