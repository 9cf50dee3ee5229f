-- Laws that a relation over pairs of times may have.
use Rattle.std.specs.Prelude.{◌≡◌, ℕ, ◌*◌, ◌<◌, ◌≤◌, ◌↔◌}
use Rattle.tre_pairs.specs.Pairs.{Pairs}

-- The relation speaks of times, and not of the numbers that name them: it holds of a, b and n
-- exactly where it holds of k * a,
-- k * b and k * n.
pub record Scales (R : Pairs) : Type 0 where
  pub up : (k a b n : ℕ) → 0 < k → R a b n → R (k * a) (k * b) (k * n)
  pub down : (k a b n : ℕ) → 0 < k → R (k * a) (k * b) (k * n) → R a b n

-- The same for a relation on durations.
pub record DurationScales (D : ℕ → ℕ → Type 0) : Type 0 where
  pub up : (k d n : ℕ) → 0 < k → D d n → D (k * d) (k * n)
  pub down : (k d n : ℕ) → 0 < k → D (k * d) (k * n) → D d n

-- The first time is never after the second.
pub record IsOrdered (R : Pairs) : Type 0 where
  pub le : (a b n : ℕ) → R a b n → a ≤ b

-- Only a time and itself are related.
pub record IsInstant (E : Pairs) : Type 0 where
  pub same : (a b n : ℕ) → E a b n → a ≡ b

-- Both times lie between low and high, in ticks.
pub record IsBounded (low high : ℕ) (R : Pairs) : Type 0 where
  pub begin : (a b n : ℕ) → R a b n → low * n ≤ a
  pub end : (a b n : ℕ) → R a b n → b ≤ high * n

-- What R relates, S relates too.
pub record Implies (R S : Pairs) : Type 0 where
  pub at : (a b n : ℕ) → R a b n → S a b n

-- What R relates with its second time before T, S relates too.
pub record ImpliesBefore (T : ℕ) (R S : Pairs) : Type 0 where
  pub at : (a b n : ℕ) → b < T * n → R a b n → S a b n

-- R and S relate the same pairs, at every denominator.
pub record Agree (R S : Pairs) : Type 0 where
  pub at : (a b n : ℕ) → 0 < n → R a b n ↔ S a b n
