-- Relations that relate the same pairs of the durations that count.
use Rattle.std.specs.Prelude.{ℕ, ◌-◌, ◌<◌, ◌↔◌}
use Rattle.tre_pairs.specs.Pairs.{Pairs}

-- Of a pair that lasts as long as D admits, both say the same.
pub record Same (D : ℕ → ℕ → Type 0) (R S : Pairs) : Type 0 where
  pub at : (a b n : ℕ) → 0 < n → D (b - a) n → R a b n ↔ S a b n
