-- Of short durations the operators make the same whether or not their parts are kept short.
use Rattle.std.proofs.Common.{ℕ, ◌-◌, ◌*◌, ◌<◌, ◌≤◌, List, [], ◌∷◌, inl, inr, ⊎_elim, subst, arith, rules}
use Rattle.std.proofs.Math.Nat.{mul-sub}
use Rattle.tre_pairs.specs.Pairs.{Pairs, Composed, Either, Both, Lasting, LeadTo, Chain}
use Rattle.tre_pairs.proofs.Laws.{DurationScales, IsOrdered, IsInstant, Agree}
use Rattle.tre_pairs.proofs.Order.{LeadTo-le}

-- With a duration each shorter one is admitted.
pub record IsDownward (D : ℕ → ℕ → Type 0) : Type 0 where
  pub at : (d d' n : ℕ) → d ≤ d' → D d' n → D d n

pub Agree-trans : (R S T : Pairs) → Agree R S → Agree S T → Agree R T
Agree-trans R S T r s = search rules

module _ (D : ℕ → ℕ → Type 0) (R S : Pairs) where
  pub Lasting-Either : Agree (Either (Lasting D R) (Lasting D S)) (Lasting D (Either R S))
  Lasting-Either = search rules

  pub Lasting-Both : Agree (Both (Lasting D R) (Lasting D S)) (Lasting D (Both R S))
  Lasting-Both = search rules

module _ (D : ℕ → ℕ → Type 0) (down : IsDownward D) (scales : DurationScales D) where
  -- the duration under a finer name
  pub finer_duration : (k a b n : ℕ) → 0 < k → D (b - a) n → D (k * b - k * a) (k * n)
  finer_duration k a b n pos h =
      subst (λ t. D t (k * n)) (mul-sub k b a) (scales.up k (b - a) n pos h)

  module _ (R S : Pairs) (r : IsOrdered R) (s : IsOrdered S) where
    pub Lasting-Composed : Agree (Lasting D (Composed (Lasting D R) (Lasting D S)))
        (Lasting D (Composed R S))
    Lasting-Composed = record {
      at = λ a b n some. (
        (λ h. record {
          related = record {
            factor = h.related.factor;
            positive = h.related.positive;
            midpoint = h.related.midpoint;
            left = h.related.left.related;
            right = h.related.right.related;
          };
          admitted = h.admitted;
        }),
        (λ h.
            let k = h.related.factor in
            let m = h.related.midpoint in
            let whole = finer_duration k a b n h.related.positive h.admitted in
            let first = r.le (k * a) m (k * n) h.related.left in
            let second = s.le m (k * b) (k * n) h.related.right in
            record {
              related = record {
                factor = k;
                positive = h.related.positive;
                midpoint = m;
                left = record {
                  related = h.related.left;
                  admitted = down.at (m - k * a) (k * b - k * a) (k * n)
                      (omega (arith, first, second)) whole;
                };
                right = record {
                  related = h.related.right;
                  admitted = down.at (k * b - m) (k * b - k * a) (k * n)
                      (omega (arith, first, second)) whole;
                };
              };
              admitted = h.admitted;
            }),
      );
    }

  module _ (R E : Pairs) (r : IsOrdered R) (e : IsInstant E) where
    LeadTo-short : (n from : ℕ) (cuts : List ℕ) (to : ℕ) → D (to - from) n
        → LeadTo R E n from cuts to → LeadTo (Lasting D R) E n from cuts to
    LeadTo-short n from [] to short h = h
    LeadTo-short n from (cut ∷ cuts) to short h =
        let first = r.le from cut n h.0 in
        let rest = LeadTo-le R E r e n cut cuts to h.1 in (
          record {
            related = h.0;
            admitted = down.at (cut - from) (to - from) n (omega (arith, first, rest)) short;
          },
          LeadTo-short n cut cuts to
              (down.at (to - cut) (to - from) n (omega (arith, first, rest)) short) h.1,
        )

    LeadTo-long : (n from : ℕ) (cuts : List ℕ) (to : ℕ) → LeadTo (Lasting D R) E n from cuts to
        → LeadTo R E n from cuts to
    LeadTo-long n from [] to h = h
    LeadTo-long n from (cut ∷ cuts) to h = (h.0.related, LeadTo-long n cut cuts to h.1)

    pub Lasting-Chain : Agree (Lasting D (Chain (Lasting D R) E)) (Lasting D (Chain R E))
    Lasting-Chain = record {
      at = λ a b n some. (
        (λ h. record {
          related = record {
            factor = h.related.factor;
            positive = h.related.positive;
            cuts = h.related.cuts;
            steps = LeadTo-long (h.related.factor * n) (h.related.factor * a) h.related.cuts
                (h.related.factor * b) h.related.steps;
          };
          admitted = h.admitted;
        }),
        (λ h. record {
          related = record {
            factor = h.related.factor;
            positive = h.related.positive;
            cuts = h.related.cuts;
            steps = LeadTo-short (h.related.factor * n) (h.related.factor * a) h.related.cuts
                (h.related.factor * b)
                (finer_duration h.related.factor a b n h.related.positive h.admitted)
                h.related.steps;
          };
          admitted = h.admitted;
        }),
      );
    }
