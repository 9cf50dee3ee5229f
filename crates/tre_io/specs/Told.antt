-- What a source and a sink tell.
use Rattle.std.specs.Prelude.{ℕ, Bool, List, Option}

-- What a source tells: the name of the file that it has and all bytes of that file; those not yet
-- read, and those that `read` found left when it was last called (before that those of the file),
-- each where it tells them; whether an `open` has answered Ok; whether it never fails under its
-- file's name; and how often it has failed.
pub record SourceTold : Type 0 where
  pub name : Option (List ℕ)
  pub file : Option (List ℕ)
  pub left : Option (List ℕ)
  pub found : Option (List ℕ)
  pub opened : Bool
  pub sound : Bool
  pub faults : ℕ

-- What a sink tells: the bytes taken so far, where it tells them, and how often it has failed.
pub record SinkTold : Type 0 where
  pub written : Option (List ℕ)
  pub faults : ℕ
