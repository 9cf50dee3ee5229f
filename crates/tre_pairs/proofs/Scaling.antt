-- Every operator on relations speaks of times: it scales where its parts do.
use Rattle.std.proofs.Common.{◌≡◌, ℕ, ◌*◌, ◌-◌, ◌<◌, List, [], ◌∷◌, map, refl, sym, subst, inl, inr, ⊎_elim, arith, rules}
use Rattle.std.proofs.Math.Nat.{mul_assoc, mul_left_comm, mul-pos, mul-sub}
use Rattle.tre_pairs.specs.Pairs.{Pairs, Composed, Either, Both, Lasting, LeadTo, Chain}
use Rattle.tre_pairs.proofs.Laws.{Scales, DurationScales}

-- a relation holds of other names of the same numbers
pub moved : (R : Pairs) {a a' b b' n n' : ℕ} → a ≡ a' → b ≡ b' → n ≡ n' → R a b n → R a' b' n'
moved R {a} {a'} {b} {b'} {n} {n'} e f g h = search rules

module _ (R S : Pairs) where
  pub Scales-Composed : Scales R → Scales S → Scales (Composed R S)
  Scales-Composed r s = record {
    up = λ k a b n pos h. record {
      factor = h.factor;
      positive = h.positive;
      midpoint = k * h.midpoint;
      left = moved R (mul_left_comm k h.factor a) refl (mul_left_comm k h.factor n)
          (r.up k (h.factor * a) h.midpoint (h.factor * n) pos h.left);
      right = moved S refl (mul_left_comm k h.factor b) (mul_left_comm k h.factor n)
          (s.up k h.midpoint (h.factor * b) (h.factor * n) pos h.right);
    };
    down = λ k a b n pos h. record {
      factor = h.factor * k;
      positive = mul-pos h.positive pos;
      midpoint = h.midpoint;
      left = moved R (sym (mul_assoc h.factor k a)) refl (sym (mul_assoc h.factor k n)) h.left;
      right = moved S refl (sym (mul_assoc h.factor k b)) (sym (mul_assoc h.factor k n)) h.right;
    };
  }

  pub Scales-Either : Scales R → Scales S → Scales (Either R S)
  Scales-Either r s = search rules

  pub Scales-Both : Scales R → Scales S → Scales (Both R S)
  Scales-Both r s = search rules

pub Scales-Lasting : (D : ℕ → ℕ → Type 0) (R : Pairs) → DurationScales D → Scales R
    → Scales (Lasting D R)
Scales-Lasting D R d r = record {
  up = λ k a b n pos h. record {
    related = r.up k a b n pos h.related;
    admitted = subst (λ t. D t (k * n)) (mul-sub k b a) (d.up k (b - a) n pos h.admitted);
  };
  down = λ k a b n pos h. record {
    related = r.down k a b n pos h.related;
    admitted = d.down k (b - a) n pos (subst (λ t. D t (k * n)) (sym (mul-sub k b a)) h.admitted);
  };
}

module _ (R E : Pairs) where
  -- cuts over a finer denominator
  pub LeadTo-finer : Scales R → Scales E → (k n from : ℕ) (cuts : List ℕ) (to : ℕ) → 0 < k
      → LeadTo R E n from cuts to
      → LeadTo R E (k * n) (k * from) (map (λ c. k * c) cuts) (k * to)
  LeadTo-finer r e k n from [] to pos h = e.up k from to n pos h
  LeadTo-finer r e k n from (cut ∷ cuts) to pos h =
      (r.up k from cut n pos h.0, LeadTo-finer r e k n cut cuts to pos h.1)

  -- cuts lead between other names of the same numbers
  pub LeadTo-moved : {n n' from from' to to' : ℕ} (cuts : List ℕ) → n ≡ n' → from ≡ from'
      → to ≡ to' → LeadTo R E n from cuts to → LeadTo R E n' from' cuts to'
  LeadTo-moved {n} {n'} {from} {from'} {to} {to'} cuts e f g h = search rules

  pub Scales-Chain : Scales R → Scales E → Scales (Chain R E)
  Scales-Chain r e = record {
    up = λ k a b n pos h. record {
      factor = h.factor;
      positive = h.positive;
      cuts = map (λ c. k * c) h.cuts;
      steps = LeadTo-moved (map (λ c. k * c) h.cuts) (mul_left_comm k h.factor n)
          (mul_left_comm k h.factor a) (mul_left_comm k h.factor b)
          (LeadTo-finer r e k (h.factor * n) (h.factor * a) h.cuts (h.factor * b) pos h.steps);
    };
    down = λ k a b n pos h. record {
      factor = h.factor * k;
      positive = mul-pos h.positive pos;
      cuts = h.cuts;
      steps = LeadTo-moved h.cuts (sym (mul_assoc h.factor k n)) (sym (mul_assoc h.factor k a))
          (sym (mul_assoc h.factor k b)) h.steps;
    };
  }
