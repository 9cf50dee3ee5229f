-- How groups grow: names are put behind those that are there, so places stay.
use Rattle.std.specs.Prelude.{◌≡◌, ℕ, List, ◌++◌, Some, slice_get}
use Rattle.tre_trace.specs.Reading.{Vocabulary}

-- Names stand behind those that were there.
pub record Extends (old new : List (List ℕ)) : Type 0 where
  pub added : List (List ℕ)
  pub new_is : new ≡ old ++ added

-- Each list of a group is the old one with names behind it.
pub record IsWider (old new : Vocabulary) : Type 0 where
  pub names : Extends old.names new.names
  pub events : Extends old.events new.events

-- The group of this number has these names or, behind them, more.
pub record HasWider (groups : List Vocabulary) (number : ℕ) (old : Vocabulary) : Type 0 where
  pub new : Vocabulary
  pub is : slice_get groups number ≡ Some new
  pub wider : IsWider old new

-- Each group is still there under its number, with its names in their places.
pub record Keep (old new : List Vocabulary) : Type 0 where
  pub each : (number : ℕ) (group : Vocabulary) → slice_get old number ≡ Some group →
      HasWider new number group
