-- Pairs that end before a cut.
use Rattle.std.specs.Prelude.{ℕ, ◌*◌, ◌<◌}
use Rattle.tre_pairs.specs.Pairs.{Pairs}

-- R, and its second time is before the cut.
pub record Before (cut : ℕ) (R : Pairs) (a b n : ℕ) : Type 0 where
  pub related : R a b n
  pub early : b < cut * n
