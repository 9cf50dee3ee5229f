-- Where nothing that enters goes on behind the piece.
use Rattle.std.proofs.Common.{ℕ, ◌*◌, ◌<◌, ◌⊎◌, List, [], ◌∷◌, inl, ⊎_elim, arith}
use Rattle.std.proofs.Math.Nat.{mul-pos}
use Rattle.tre_pairs.specs.Cuts.{Crossing}
use Rattle.tre_pairs.specs.Pairs.{Pairs, Composed, Either, Both, Lasting, LeadTo, Chain}
use Rattle.tre_pairs.proofs.Laws.{IsInstant, Agree}
use Rattle.tre_pairs.proofs.Ticks.{gt_up, gt_down, le_up}

-- What begins before the cut ends before it.
pub record IsDull (cut : ℕ) (X : Pairs) : Type 0 where
  pub stays : (a b n : ℕ) → 0 < n → X a b n → a < cut * n → b < cut * n

pub dull_either : (cut : ℕ) (X Y : Pairs) → IsDull cut X → IsDull cut Y → IsDull cut (Either X Y)
dull_either cut X Y x y = record {
  stays = λ a b n some h early. ⊎_elim
      (λ g. x.stays a b n some g early) (λ g. y.stays a b n some g early) h;
}

pub dull_both : (cut : ℕ) (X Y : Pairs) → IsDull cut X ⊎ IsDull cut Y → IsDull cut (Both X Y)
dull_both cut X Y one = record {
  stays = λ a b n some h early. ⊎_elim
      (λ x. x.stays a b n some h.left early) (λ y. y.stays a b n some h.right early) one;
}

pub dull_lasting : (cut : ℕ) (D : ℕ → ℕ → Type 0) (X : Pairs) → IsDull cut X
    → IsDull cut (Lasting D X)
dull_lasting cut D X x = record {
  stays = λ a b n some h early. x.stays a b n some h.related early;
}

pub dull_composed : (cut : ℕ) (X Y : Pairs) → IsDull cut X → IsDull cut Y
    → IsDull cut (Composed X Y)
dull_composed cut X Y x y = record {
  stays = λ a b n some h early.
      let k = h.factor in
      let finer = mul-pos h.positive some in
      gt_down k cut b n
      (y.stays h.midpoint (k * b) (k * n) finer h.right
      (x.stays (k * a) h.midpoint (k * n) finer h.left (gt_up k cut a n h.positive early)));
}

module _ (cut : ℕ) (X Z : Pairs) (x : IsDull cut X) (same : IsInstant Z) where
  dull_steps : (a b n : ℕ) (cuts : List ℕ) → 0 < n → LeadTo X Z n a cuts b → a < cut * n
      → b < cut * n
  dull_steps a b n [] some lead early =
      let eq = same.same a b n lead in
      omega (arith, eq, early)
  dull_steps a b n (c ∷ cuts) some lead early =
      dull_steps c b n cuts some lead.1 (x.stays a c n some lead.0 early)

  pub dull_chain : IsDull cut (Chain X Z)
  dull_chain = record {
    stays = λ a b n some h early.
        let k = h.factor in
        gt_down k cut b n
        (dull_steps (k * a) (k * b) (k * n) h.cuts (mul-pos h.positive some) h.steps
        (gt_up k cut a n h.positive early));
  }

-- So what enters there before the cut need not be followed.
pub left_out : (cut : ℕ) (E M X : Pairs) → IsDull cut X
    → ((a b n : ℕ) → 0 < n → E a b n → b < cut * n)
    → Agree (Crossing cut (Either M (Composed E X))) (Crossing cut M)
left_out cut E M X dull strict = record {
  at = λ a b n some. (
    (λ h. ⊎_elim
        (λ g. record { related = g; begin = h.begin; end = h.end })
        (λ g.
        let k = g.factor in
        let finer = mul-pos g.positive some in
        let early = dull.stays g.midpoint (k * b) (k * n) finer g.right
        (strict (k * a) g.midpoint (k * n) finer g.left) in
        let late = le_up k cut b n h.end in
        absurd (omega (arith, early, late))) h.related),
    (λ h. record { related = inl h.related; begin = h.begin; end = h.end }),
  );
}
