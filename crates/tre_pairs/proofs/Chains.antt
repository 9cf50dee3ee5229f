-- Composition is associative, and a chain of chains is a chain.
use Rattle.std.proofs.Common.{◌↔◌, ℕ, ◌*◌, ◌<◌, List, [], ◌∷◌, ◌++◌, map, refl, sym, subst, inl, inr, ⊎_elim, ◌⊎◌, ◌∙◌, arith, rules}
use Rattle.std.proofs.Math.Nat.{mul_assoc, mul_left_comm, mul-pos, one-mul}
use Rattle.tre_pairs.specs.Pairs.{Pairs, Composed, LeadTo, Chain}
use Rattle.tre_pairs.proofs.Laws.{Scales, IsInstant}
use Rattle.tre_pairs.proofs.Scaling.{moved, LeadTo-finer, LeadTo-moved, Scales-Chain}

one_positive : 0 < 1
one_positive = omega arith

-- a midpoint at the same denominator
pub Composed-at : (R S : Pairs) (a c b n : ℕ) → R a c n → S c b n → Composed R S a b n
Composed-at R S a c b n r s = record {
  factor = 1;
  positive = one_positive;
  midpoint = c;
  left = moved R (sym (one-mul a)) refl (sym (one-mul n)) r;
  right = moved S refl (sym (one-mul b)) (sym (one-mul n)) s;
}

module _ (R S T : Pairs) where
  pub Composed-assoc_right : Scales T → (a b n : ℕ) → Composed (Composed R S) T a b n
      → Composed R (Composed S T) a b n
  Composed-assoc_right t a b n h =
      let i = h.left.factor in
      record {
        factor = i * h.factor;
        positive = mul-pos h.left.positive h.positive;
        midpoint = h.left.midpoint;
        left = moved R (sym (mul_assoc i h.factor a)) refl
            (sym (mul_assoc i h.factor n)) h.left.left;
        right = moved (Composed S T) refl (sym (mul_assoc i h.factor b))
            (sym (mul_assoc i h.factor n))
            (Composed-at S T h.left.midpoint (i * h.midpoint) (i * (h.factor * b))
            (i * (h.factor * n)) h.left.right
            (t.up i h.midpoint (h.factor * b) (h.factor * n) h.left.positive h.right));
      }

  pub Composed-assoc_left : Scales R → (a b n : ℕ) → Composed R (Composed S T) a b n
      → Composed (Composed R S) T a b n
  Composed-assoc_left r a b n h =
      let i = h.right.factor in
      record {
        factor = i * h.factor;
        positive = mul-pos h.right.positive h.positive;
        midpoint = h.right.midpoint;
        left = moved (Composed R S) (sym (mul_assoc i h.factor a)) refl
            (sym (mul_assoc i h.factor n))
            (Composed-at R S (i * (h.factor * a)) (i * h.midpoint) h.right.midpoint
            (i * (h.factor * n))
            (r.up i (h.factor * a) h.midpoint (h.factor * n) h.right.positive h.left) h.right.left);
        right = moved T refl (sym (mul_assoc i h.factor b))
            (sym (mul_assoc i h.factor n)) h.right.right;
      }

  -- composition is associative
  pub Composed-assoc : Scales R → Scales T → (a b n : ℕ)
      → Composed (Composed R S) T a b n ↔ Composed R (Composed S T) a b n
  Composed-assoc r t a b n = (Composed-assoc_right t a b n, Composed-assoc_left r a b n)

module _ (R E : Pairs) where
  -- cuts over the denominator itself
  pub Chain-at : (a b n : ℕ) (cuts : List ℕ) → LeadTo R E n a cuts b → Chain R E a b n
  Chain-at a b n cuts h = record {
    factor = 1;
    positive = one_positive;
    cuts = cuts;
    steps = LeadTo-moved R E cuts (sym (one-mul n)) (sym (one-mul a)) (sym (one-mul b)) h;
  }

  -- the chain with no step
  pub Chain-none : (a b n : ℕ) → E a b n → Chain R E a b n
  Chain-none a b n h = Chain-at a b n [] h

  -- the chain with one step, whose end is in range
  pub Chain-one : (a b n : ℕ) → R a b n → E b b n → Chain R E a b n
  Chain-one a b n h e = Chain-at a b n (b ∷ []) (h, e)

  -- cuts that lead on to cuts
  pub LeadTo-append : IsInstant E → (n from : ℕ) (cuts : List ℕ) (mid : ℕ) (more : List ℕ) (to : ℕ)
      → LeadTo R E n from cuts mid → LeadTo R E n mid more to → LeadTo R E n from (cuts ++ more) to
  LeadTo-append e n from [] mid more to h g = search rules
  LeadTo-append e n from (cut ∷ cuts) mid more to h g =
      (h.0, LeadTo-append e n cut cuts mid more to h.1 g)

  -- a chain and then a chain is a chain
  pub Chain-join : Scales R → Scales E → IsInstant E → (a c b n : ℕ) → Chain R E a c n
      → Chain R E c b n → Chain R E a b n
  Chain-join r e same a c b n g h =
      let i = g.factor in let j = h.factor in
      let xs = map (λ x. j * x) g.cuts in let ys = map (λ x. i * x) h.cuts in
      record {
        factor = i * j;
        positive = mul-pos g.positive h.positive;
        cuts = xs ++ ys;
        steps = LeadTo-append same (i * j * n) (i * j * a) xs (i * j * c) ys (i * j * b)
            (LeadTo-moved R E xs (mul_left_comm j i n ∙ sym (mul_assoc i j n))
            (mul_left_comm j i a ∙ sym (mul_assoc i j a))
            (mul_left_comm j i c ∙ sym (mul_assoc i j c))
            (LeadTo-finer R E r e j (i * n) (i * a) g.cuts (i * c) h.positive g.steps))
            (LeadTo-moved R E ys (sym (mul_assoc i j n)) (sym (mul_assoc i j c))
            (sym (mul_assoc i j b))
            (LeadTo-finer R E r e i (j * n) (j * c) h.cuts (j * b) g.positive h.steps));
      }

  -- a step and then a chain is a chain
  pub Chain-step : Scales R → Scales E → (a b n : ℕ) → Composed R (Chain R E) a b n
      → Chain R E a b n
  Chain-step r e a b n h =
      let i = h.right.factor in
      (Scales-Chain R E r e).down (i * h.factor) a b n (mul-pos h.right.positive h.positive)
      (Chain-at (i * h.factor * a) (i * h.factor * b) (i * h.factor * n)
      (i * h.midpoint ∷ h.right.cuts) (
        moved R (sym (mul_assoc i h.factor a)) refl (sym (mul_assoc i h.factor n))
            (r.up i (h.factor * a) h.midpoint (h.factor * n) h.right.positive h.left),
        LeadTo-moved R E h.right.cuts (sym (mul_assoc i h.factor n)) refl
            (sym (mul_assoc i h.factor b)) h.right.steps,
      ))

  -- and a chain has no step, or a step and then a chain
  first_step : (k a b n : ℕ) → 0 < k → (cuts : List ℕ) → LeadTo R E (k * n) (k * a) cuts (k * b)
      → E (k * a) (k * b) (k * n) ⊎ Composed R (Chain R E) a b n
  first_step k a b n pos [] h = inl h
  first_step k a b n pos (cut ∷ cuts) h = search (rules, Chain-at)

  pub Chain-cases : Scales E → (a b n : ℕ) → Chain R E a b n
      → E a b n ⊎ Composed R (Chain R E) a b n
  Chain-cases e a b n h = search (rules, first_step, e.down, h.factor, h.positive, h.cuts)

-- a chain of chains is a chain
module _ (R E : Pairs) (r : Scales R) (e : Scales E) (same : IsInstant E) where
  LeadTo-flat : (n from : ℕ) (cuts : List ℕ) (to : ℕ) → LeadTo (Chain R E) E n from cuts to
      → Chain R E from to n
  LeadTo-flat n from [] to h = Chain-none R E from to n h
  LeadTo-flat n from (cut ∷ cuts) to h = Chain-join R E r e same from cut to n h.0
      (LeadTo-flat n cut cuts to h.1)

  pub Chain-flat : (a b n : ℕ) → Chain (Chain R E) E a b n → Chain R E a b n
  Chain-flat a b n h =
      (Scales-Chain R E r e).down h.factor a b n h.positive
      (LeadTo-flat (h.factor * n) (h.factor * a) h.cuts (h.factor * b) h.steps)

  -- and a chain is a chain of chains, where its end is in range
  pub Chain-Chain : ((a b n : ℕ) → Chain R E a b n → E b b n) → (a b n : ℕ)
      → Chain (Chain R E) E a b n ↔ Chain R E a b n
  Chain-Chain ends a b n = (Chain-flat a b n, λ h. Chain-one (Chain R E) E a b n h (ends a b n h))
