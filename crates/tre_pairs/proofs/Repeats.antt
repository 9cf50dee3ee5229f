-- What crosses the end of a piece where a repetition goes on.
use Rattle.std.proofs.Common.{ℕ, ◌*◌, ◌<◌, ◌≤◌, List, [], ◌∷◌, inl, inr, ⊎_elim, arith}
use Rattle.std.proofs.Math.Nat.{mul-pos}
use Rattle.std.proofs.lemmas.Bool.{cases_lt}
use Rattle.tre_pairs.specs.Cuts.{Crossing}
use Rattle.tre_pairs.specs.Pairs.{Pairs, Composed, Either, LeadTo, Chain}
use Rattle.tre_pairs.proofs.Chains.{Composed-at, Composed-assoc_right, Chain-at, Chain-none, Chain-one, Chain-join}
use Rattle.tre_pairs.proofs.CutLaws.{IsCut, Scales-Crossing}
use Rattle.tre_pairs.proofs.Laws.{Scales, IsOrdered, IsInstant, Agree}
use Rattle.tre_pairs.proofs.Order.{IsOrdered-Chain}
use Rattle.tre_pairs.proofs.Scaling.{Scales-Composed, Scales-Either, Scales-Chain}
use Rattle.tre_pairs.proofs.Ticks.{le_up, le_down, ge_up, ge_down}
use Rattle.tre_pairs.specs.Before.{Before}
use Rattle.tre_pairs.proofs.Walk.{Scales-Before}

-- X is what is repeated, over the piece and what comes behind it, Z the empty match, and M what
-- its mark stands for. E enters, and ends before the cut. U and V are the repetition before the cut
-- and behind it.
module _ (cut : ℕ) (X Z M E U V : Pairs) (sx : Scales X) (sz : Scales Z) (sm : Scales M)
    (se : Scales E) (sv : Scales V) (same : IsInstant Z) (ordered : IsOrdered X)
    (parts : IsCut cut (Chain X Z) U V)
    (strict : (a b n : ℕ) → 0 < n → E a b n → b < cut * n)
    (starts : (a b n : ℕ) → 0 < n → Either E M a b n → Z b b n)
    (steps : (a b n : ℕ) → 0 < n → X a b n → Z b b n) where
  abbrev Any : Pairs
  Any = Chain X Z

  abbrev S : Pairs
  S = Either E M

  -- What is repeated begins behind these.
  abbrev pub F : Pairs
  F = Before cut (Composed S Any)

  -- What its mark then stands for.
  abbrev pub B : Pairs
  B = Crossing cut (Either M (Composed F X))

  scales_any : Scales Any
  scales_any = Scales-Chain X Z sx sz

  scales_all : Scales (Composed S Any)
  scales_all = Scales-Composed S Any (Scales-Either E M se sm) scales_any

  scales_left : Scales (Composed B V)
  scales_left = Scales-Composed B V
      (Scales-Crossing cut (Either M (Composed F X))
      (Scales-Either M (Composed F X) sm
      (Scales-Composed F X (Scales-Before cut (Composed S Any) scales_all) sx))) sv

  any_join : (a b n : ℕ) → Composed Any Any a b n → Any a b n
  any_join a b n h =
      scales_any.down h.factor a b n h.positive
      (Chain-join X Z sx sz same (h.factor * a) h.midpoint (h.factor * b) (h.factor * n)
      h.left h.right)

  any_step : (a b n : ℕ) → 0 < n → Composed Any X a b n → Any a b n
  any_step a b n some h =
      let k = h.factor in
      any_join a b n (record {
        factor = k;
        positive = h.positive;
        midpoint = h.midpoint;
        left = h.left;
        right = Chain-one X Z h.midpoint (k * b) (k * n) h.right
            (steps h.midpoint (k * b) (k * n) (mul-pos h.positive some) h.right);
      })

  all_step : (a m b n : ℕ) → 0 < n → Composed S Any a m n → X m b n → Composed S Any a b n
  all_step a m b n some h x =
      let g = Composed-assoc_right S Any X sx a b n
      (Composed-at (Composed S Any) X a m b n h x) in
      record {
        factor = g.factor;
        positive = g.positive;
        midpoint = g.midpoint;
        left = g.left;
        right = any_step g.midpoint (g.factor * b) (g.factor * n) (mul-pos g.positive some) g.right;
      }

  -- From a moment before the cut the chain goes on to the first that isn't.
  walk : (a m b n : ℕ) (cuts : List ℕ) → 0 < n → a ≤ cut * n → cut * n ≤ b
      → Composed S Any a m n → m < cut * n → LeadTo X Z n m cuts b → Composed B V a b n
  walk a m b n [] some begin end so early lead =
      let eq = same.same m b n lead in
      absurd (omega (arith, eq, early, end))
  walk a m b n (c ∷ cuts) some begin end so early lead =
      ⊎_elim
      (λ before. walk a c b n cuts some begin end (all_step a m c n some so lead.0) before lead.1)
      (λ late. Composed-at B V a c b n
      (record {
        related = inr (Composed-at F X a m c n (record { related = so; early = early }) lead.0);
        begin = begin;
        end = late;
      })
      (parts.late.at c b n some late (Chain-at X Z c b n cuts lead.1)))
      (cases_lt c (cut * n))

  from_start : (a m b n : ℕ) (cuts : List ℕ) → 0 < n → a ≤ cut * n → cut * n ≤ b
      → S a m n → LeadTo X Z n m cuts b → Composed B V a b n
  from_start a m b n cuts some begin end s lead =
      ⊎_elim
      (λ early. walk a m b n cuts some begin end
      (Composed-at S Any a m m n s (Chain-none X Z m m n (starts a m n some s))) early lead)
      (λ late. ⊎_elim
      (λ e.
      let early = strict a m n some e in
      absurd (omega (arith, early, late)))
      (λ x. Composed-at B V a m b n
      (record { related = inl x; begin = begin; end = late })
      (parts.late.at m b n some late (Chain-at X Z m b n cuts lead))) s)
      (cases_lt m (cut * n))

  -- What crosses of the repetition: the mark that is left of what is repeated, and then any number.
  pub cross_repetition : Agree (Crossing cut (Composed S Any)) (Composed B V)
  cross_repetition = record {
    at = λ a b n some. (
      (λ h.
          let k = h.related.factor in
          let m = h.related.midpoint in
          let j = h.related.right.factor in
          let finer = mul-pos h.related.positive some in
          scales_left.down k a b n h.related.positive
          (scales_left.down j (k * a) (k * b) (k * n) h.related.right.positive
          (from_start (j * (k * a)) (j * m) (j * (k * b)) (j * (k * n)) h.related.right.cuts
          (mul-pos h.related.right.positive finer)
          (ge_up j cut (k * a) (k * n) (ge_up k cut a n h.begin))
          (le_up j cut (k * b) (k * n) (le_up k cut b n h.end))
          ((Scales-Either E M se sm).up j (k * a) m (k * n) h.related.right.positive h.related.left)
          h.related.right.steps))),
      (λ h.
          let k = h.factor in
          let m = h.midpoint in
          let finer = mul-pos h.positive some in
          let behind = parts.behind.at m (k * b) (k * n) h.right in
          let rising = (IsOrdered-Chain X Z ordered same).le m (k * b) (k * n) behind in
          let late = h.left.end in
          let so : Composed S Any (k * a) m (k * n) = ⊎_elim
          (λ x. Composed-at S Any (k * a) m m (k * n) (inr x)
          (Chain-none X Z m m (k * n) (starts (k * a) m (k * n) finer (inr x))))
          (λ y.
          let i = y.factor in
          scales_all.down i (k * a) m (k * n) y.positive
          (all_step (i * (k * a)) y.midpoint (i * m) (i * (k * n)) (mul-pos y.positive finer)
          y.left.related y.right)) h.left.related in
          let g = Composed-assoc_right S Any Any scales_any (k * a) (k * b) (k * n)
          (Composed-at (Composed S Any) Any (k * a) m (k * b) (k * n) so behind) in
          record {
            related = scales_all.down k a b n h.positive (record {
              factor = g.factor;
              positive = g.positive;
              midpoint = g.midpoint;
              left = g.left;
              right = any_join g.midpoint (g.factor * (k * b)) (g.factor * (k * n)) g.right;
            });
            begin = ge_down k cut a n h.positive h.left.begin;
            end = le_down k cut b n h.positive (omega (arith, late, rising));
          }),
    );
  }
