-- Pairs of times, over a common denominator, and relations over them.
use Rattle.std.specs.Prelude.{ℕ, ◌*◌, ◌-◌, ◌<◌, ◌⊎◌, List, [], ◌∷◌}

-- A relation over pairs of times: of a, b and n it says something of the times a/n and b/n, in
-- ticks.
-- What it says where n is 0 is of no account.
abbrev pub Pairs : Type 1
Pairs = ℕ → ℕ → ℕ → Type 0

-- One after the other: R from a/n to some moment, and S from that moment to b/n. The moment may be
-- any fraction: it is midpoint/(factor * n).
pub record Composed (R S : Pairs) (a b n : ℕ) : Type 0 where
  pub factor : ℕ
  pub positive : 0 < factor
  pub midpoint : ℕ
  pub left : R (factor * a) midpoint (factor * n)
  pub right : S midpoint (factor * b) (factor * n)

abbrev pub Either : Pairs → Pairs → Pairs
Either R S a b n = R a b n ⊎ S a b n

pub record Both (R S : Pairs) (a b n : ℕ) : Type 0 where
  pub left : R a b n
  pub right : S a b n

-- R, where the time that passes, (b - a)/n, is a duration that D admits.
pub record Lasting (D : ℕ → ℕ → Type 0) (R : Pairs) (a b n : ℕ) : Type 0 where
  pub related : R a b n
  pub admitted : D (b - a) n

-- The cuts lead from `from` to `to`: each is related to the next by R, and the last to `to` by E,
-- which says of two times that
-- they are one. All are over the denominator n.
abbrev pub LeadTo : Pairs → Pairs → ℕ → ℕ → List ℕ → ℕ → Type 0
LeadTo R E n from [] to = E from to n
LeadTo R E n from (cut ∷ cuts) to = R from cut n × LeadTo R E n cut cuts to

-- R any number of times, one after another: for some finite list of cuts between a/n and b/n,
-- fractions of any denominator, each
-- two neighbours are related. Where there is no step at all, E says that a/n and b/n are one time.
pub record Chain (R E : Pairs) (a b n : ℕ) : Type 0 where
  pub factor : ℕ
  pub positive : 0 < factor
  pub cuts : List ℕ
  pub steps : LeadTo R E (factor * n) (factor * a) cuts (factor * b)
