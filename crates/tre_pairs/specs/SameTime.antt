-- A time and itself.
use Rattle.std.specs.Prelude.{◌≡◌, ℕ}

-- The two times are one.
pub record SameTime (a b n : ℕ) : Type 0 where
  pub same : a ≡ b
