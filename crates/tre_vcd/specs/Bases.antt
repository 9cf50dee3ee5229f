-- The signals that definitions may read.
use Rattle.std.specs.Prelude.{◌≡◌, ℕ, Bool, true, List, map, All}
use Rattle.std.specs.List.{list_all}
use Rattle.tre_define.specs.Named.{IsFront}
use Rattle.tre_define.specs.Signals.{SignalDefined}
use Rattle.tre_state.specs.Sieve.{MayBe}
use Rattle.tre_vcd.specs.declared.bases.Bases.{Bases}

-- The name is one of those that are kept, and the sieve was told of it.
pub record HasFront (bases : Bases) (name : List ℕ) : Type 0 where
  pub among : (test : List ℕ → Bool)
      → list_all test (map (λ name. name.items) bases.names.keys) ≡ true → test name ≡ true
  pub told : ¬ ((k : ℕ) → ¬ MayBe bases.sieve name k)

-- So is each front of the text.
pub record HasSignal (bases : Bases) (text : List ℕ) : Type 0 where
  pub fronts : (front : List ℕ) → IsFront front text → HasFront bases front

-- So are those of both texts of a definition.
pub record HasTexts (bases : Bases) (one : SignalDefined) : Type 0 where
  pub signal : HasSignal bases one.signal
  pub other : HasSignal bases one.other

pub record HasSignals (bases : Bases) (all : List SignalDefined) : Type 0 where
  pub each : All (HasTexts bases) all
