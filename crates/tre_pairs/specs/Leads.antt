-- Where pairs of a relation begin.
use Rattle.std.specs.Prelude.{ℕ, ◌*◌, ◌<◌}
use Rattle.tre_pairs.specs.Pairs.{Pairs}

-- R holds from b/n to some moment.
pub record Leads (R : Pairs) (b n : ℕ) : Type 0 where
  pub factor : ℕ
  pub positive : 0 < factor
  pub to : ℕ
  pub led : R (factor * b) to (factor * n)

-- R leads on from where the pair ends.
abbrev pub LeadsOn : Pairs → Pairs
LeadsOn R a b n = Leads R b n
