-- What one relation over pairs of times has and another has not.
use Rattle.std.specs.Prelude.{ℕ}
use Rattle.tre_pairs.specs.Pairs.{Pairs}

-- R, and not S.
pub record Except (R S : Pairs) (a b n : ℕ) : Type 0 where
  pub related : R a b n
  pub never : S a b n → ⊥
