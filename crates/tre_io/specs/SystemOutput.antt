-- What is known of an output of the system.
use Rattle.std.specs.Prelude.{ℕ, List, Option}

-- The bytes that its writer holds, where that tells them, and how often a call failed.
pub record SystemOutput : Type 0 where
  pub written : Option (List ℕ)
  pub faults : ℕ
