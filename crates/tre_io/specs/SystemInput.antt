-- What is known of an input of the system.
use Rattle.std.specs.Prelude.{ℕ, List, Bool, Option}

-- Whether it is open, whether it is standard input, the bytes left where its reader tells them, and
-- how often a call failed.
pub record SystemInput : Type 0 where
  pub opened : Bool
  pub standard : Bool
  pub left : Option (List ℕ)
  pub faults : ℕ
