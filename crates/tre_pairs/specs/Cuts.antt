-- Pairs of times around a moment at which time is cut in two.
use Rattle.std.specs.Prelude.{◌≡◌, ℕ, ◌*◌, ◌≤◌, ◌<◌}
use Rattle.tre_pairs.specs.Pairs.{Pairs}

-- Both times are the moment `cut`, in ticks.
pub record IsMoment (cut a b n : ℕ) : Type 0 where
  pub begin : a ≡ cut * n
  pub end : b ≡ cut * n

-- R, from the cut or before it to the cut or behind it.
pub record Crossing (cut : ℕ) (R : Pairs) (a b n : ℕ) : Type 0 where
  pub related : R a b n
  pub begin : a ≤ cut * n
  pub end : cut * n ≤ b

-- R up to the cut, and S from the cut on.
pub record JoinedAt (cut : ℕ) (R S : Pairs) (a b n : ℕ) : Type 0 where
  pub left : R a (cut * n) n
  pub right : S (cut * n) b n

-- R, and some time passes.
pub record Passing (R : Pairs) (a b n : ℕ) : Type 0 where
  pub related : R a b n
  pub some_time : a < b
