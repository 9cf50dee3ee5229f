-- Names that must be declared, some of which are defined.
use Rattle.std.specs.Prelude.{◌≡◌, ℕ, Bool, true, not, ◌&&◌, List, ◌++◌, map, Some, All}
use Rattle.std.specs.List.{list_all}
use Rattle.std.specs.Option.{is_some}
use Rattle.tre_define.specs.Signals.{SignalDefined, signal_definition_of}

-- the names without a definition, and those of the definitions
abbrev pub wanted : List (List ℕ) → List SignalDefined → List (List ℕ)
wanted names defined = names ++ map (λ one. one.name) defined

abbrev pub is_undefined : List SignalDefined → List ℕ → Bool
is_undefined all name = not (is_some (signal_definition_of all name))

-- The names have no definition, and each of the definitions is the one of its name.
pub record AreSorted (all : List SignalDefined) (names : List (List ℕ))
    (own : List SignalDefined) : Type 0 where
  pub plain : list_all (is_undefined all) names ≡ true
  pub defined : All (λ one. signal_definition_of all one.name ≡ Some one) own

-- These are the old names and the added ones, and no others.
pub record JoinsNames (old added new : List (List ℕ)) : Type 0 where
  pub each : (test : List ℕ → Bool) → list_all test new ≡ (list_all test old && list_all test added)
