-- Chains of equal steps, and steps that are chains themselves.
use Rattle.std.proofs.Common.{◌≡◌, ℕ, zero, suc, ◌+◌, ◌-◌, ◌*◌, ◌<◌, ◌≤◌, List, [], ◌∷◌, ◌++◌, map, refl, sym, ap, subst, ◌∙◌, arith, rules}
use Rattle.std.proofs.Math.Nat.{mul_assoc, mul_left_comm, mul-pos, eq_of_mul-eq-mul_left}
use Rattle.tre_pairs.specs.Pairs.{Pairs, LeadTo, Chain}
use Rattle.tre_pairs.specs.SameTime.{SameTime}
use Rattle.tre_pairs.proofs.Laws.{Scales, IsInstant, Agree}
use Rattle.tre_pairs.proofs.Scaling.{moved, LeadTo-finer, LeadTo-moved, Scales-Chain}
use Rattle.tre_pairs.proofs.Chains.{Chain-none}

pub IsInstant-SameTime : IsInstant SameTime
IsInstant-SameTime = record { same = λ a b n h. h.same }

unscaled : (k a b : ℕ) → 0 < k → k * a ≡ k * b → a ≡ b
unscaled k a b pos h = eq_of_mul-eq-mul_left k pos a b h

pub Scales-SameTime : Scales SameTime
Scales-SameTime = search rules

-- ---- equal steps

-- The ends of some equal steps from a time on.
evenly : ℕ → ℕ → ℕ → List ℕ
evenly zero from step = []
evenly (suc count) from step = (from + step) ∷ evenly count (from + step) step

module _ (R E : Pairs) (n step : ℕ) where
  LeadTo-even : (count from to : ℕ) → to ≡ from + count * step → E to to n
      → ((i : ℕ) → i < count → R (from + i * step) (from + i * step + step) n)
      → LeadTo R E n from (evenly count from step) to
  unfolding evenly
  LeadTo-even zero from to ends last steps = search rules
  LeadTo-even (suc count) from to ends last steps = (
    moved R (let e : from + 0 * step ≡ from = omega arith in e)
        (let e : from + 0 * step + step ≡ from + step = omega arith in e) refl
        (steps 0 (omega arith)),
    LeadTo-even count (from + step) to (omega (arith, ends)) last
        (λ i below.
        moved R (let e : from + (i + 1) * step ≡ from + step + i * step = omega arith in e)
        (let e : from + (i + 1) * step + step ≡ from + step + i * step + step = omega arith in e)
        refl (steps (i + 1) (omega (arith, below)))),
  )

pub Chain-even : (R E : Pairs) (a b n count : ℕ) → 0 < count → a ≤ b
    → E (count * b) (count * b) (count * n)
    → ((i : ℕ) → i < count → R (count * a + i * (b - a)) (count * a + i * (b - a) + (b - a))
    (count * n))
    → Chain R E a b n
Chain-even R E a b n count some rising last steps =
    let whole : a + (b - a) ≡ b = omega (arith, rising) in
    let times : count * (a + (b - a)) ≡ count * b = ap (λ (t : ℕ). count * t) whole in
    record {
      factor = count;
      positive = some;
      cuts = evenly count (count * a) (b - a);
      steps = LeadTo-even R E (count * n) (b - a) count (count * a) (count * b)
          (omega (arith, times)) last steps;
    }

-- ---- one chain and then another

module _ (R E F : Pairs) where
  -- cuts that lead on to cuts, of which the last has another relation for the end
  LeadTo-onto : IsInstant E → (n from : ℕ) (cuts : List ℕ) (mid : ℕ) (more : List ℕ) (to : ℕ)
      → LeadTo R E n from cuts mid → LeadTo R F n mid more to → LeadTo R F n from (cuts ++ more) to
  LeadTo-onto e n from [] mid more to h g = search rules
  LeadTo-onto e n from (cut ∷ cuts) mid more to h g =
      (h.0, LeadTo-onto e n cut cuts mid more to h.1 g)

  -- a chain that ends by E, and then one that ends by F, is one that ends by F
  pub Chain-onto : Scales R → Scales E → Scales F → IsInstant E → (a c b n : ℕ) → Chain R E a c n
      → Chain R F c b n → Chain R F a b n
  Chain-onto r e f same a c b n g h =
      let i = g.factor in let j = h.factor in
      let xs = map (λ x. j * x) g.cuts in let ys = map (λ x. i * x) h.cuts in
      record {
        factor = i * j;
        positive = mul-pos g.positive h.positive;
        cuts = xs ++ ys;
        steps = LeadTo-onto same (i * j * n) (i * j * a) xs (i * j * c) ys (i * j * b)
            (LeadTo-moved R E xs (mul_left_comm j i n ∙ sym (mul_assoc i j n))
            (mul_left_comm j i a ∙ sym (mul_assoc i j a))
            (mul_left_comm j i c ∙ sym (mul_assoc i j c))
            (LeadTo-finer R E r e j (i * n) (i * a) g.cuts (i * c) h.positive g.steps))
            (LeadTo-moved R F ys (sym (mul_assoc i j n)) (sym (mul_assoc i j c))
            (sym (mul_assoc i j b))
            (LeadTo-finer R F r f i (j * n) (j * c) h.cuts (j * b) g.positive h.steps));
      }

-- ---- steps that are chains themselves

module _ (R S E : Pairs) (r : Scales R) (e : Scales E)
    (long : (a b n : ℕ) → 0 < n → S a b n → Chain R SameTime a b n)
    (more : (a b n : ℕ) → 0 < n → R a b n → S a b n) where
  LeadTo-long : (n from : ℕ) → 0 < n → (cuts : List ℕ) (to : ℕ) → LeadTo S E n from cuts to
      → Chain R E from to n
  LeadTo-long n from some [] to h = Chain-none R E from to n h
  LeadTo-long n from some (cut ∷ cuts) to h =
      Chain-onto R SameTime E r Scales-SameTime e IsInstant-SameTime from cut to n
      (long from cut n some h.0) (LeadTo-long n cut some cuts to h.1)

  LeadTo-more : (n from : ℕ) → 0 < n → (cuts : List ℕ) (to : ℕ) → LeadTo R E n from cuts to
      → LeadTo S E n from cuts to
  LeadTo-more n from some [] to h = h
  LeadTo-more n from some (cut ∷ cuts) to h =
      (more from cut n some h.0, LeadTo-more n cut some cuts to h.1)

  -- chains of steps, to which some chains of them were added as steps, are chains
  pub Chain-longer : Agree (Chain S E) (Chain R E)
  Chain-longer = record {
    at = λ a b n some. (
      (λ h. (Scales-Chain R E r e).down h.factor a b n h.positive
          (LeadTo-long (h.factor * n) (h.factor * a) (mul-pos h.positive some) h.cuts
          (h.factor * b) h.steps)),
      (λ h. record {
        factor = h.factor;
        positive = h.positive;
        cuts = h.cuts;
        steps = LeadTo-more (h.factor * n) (h.factor * a) (mul-pos h.positive some) h.cuts
            (h.factor * b) h.steps;
      }),
    );
  }
