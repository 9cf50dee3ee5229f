-- Pairs of which one is joined to the other at a time.
use Rattle.std.proofs.Common.{ℕ, ◌*◌, refl, rules}
use Rattle.std.proofs.Math.Nat.{mul_left_comm}
use Rattle.tre_pairs.specs.Cuts.{JoinedAt}
use Rattle.tre_pairs.specs.Pairs.{Pairs}
use Rattle.tre_pairs.proofs.Laws.{Scales, IsOrdered}
use Rattle.tre_pairs.proofs.Scaling.{moved}

module _ (cut : ℕ) (R S : Pairs) where
  pub Scales-JoinedAt : Scales R → Scales S → Scales (JoinedAt cut R S)
  Scales-JoinedAt r s = record {
    up = λ k a b n pos h. record {
      left = moved R refl (mul_left_comm k cut n) refl (r.up k a (cut * n) n pos h.left);
      right = moved S (mul_left_comm k cut n) refl refl (s.up k (cut * n) b n pos h.right);
    };
    down = λ k a b n pos h. record {
      left = r.down k a (cut * n) n pos
          (moved R refl (mul_left_comm cut k n) refl h.left);
      right = s.down k (cut * n) b n pos
          (moved S (mul_left_comm cut k n) refl refl h.right);
    };
  }

  pub IsOrdered-JoinedAt : IsOrdered R → IsOrdered S → IsOrdered (JoinedAt cut R S)
  IsOrdered-JoinedAt r s = search rules
