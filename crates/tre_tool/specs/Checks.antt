-- The file of checks, of which the words of a watch, or of checks that are judged, give the name:
-- what was read of it, and what it says.
use Rattle.std.specs.Prelude.{◌≡◌, ℕ, ◌+◌, ◌≤◌, List, [], ◌∷◌, ◌++◌, length, map, Some, codes, if◌then◌else◌}
use Rattle.std.specs.Io.KnownBytes.{IsAtEnd}
use Rattle.tre_define.specs.Signals.{SignalDefined}
use Rattle.tre_feed.specs.Input.{InputTold}
use Rattle.tre_num.specs.Defined.{Defined}
use Rattle.tre_tell.specs.Sought.{Sought}
use Rattle.tre_tell.specs.Streams.{OfBytes}
use Rattle.tre_watch.specs.Forms.{has_arrow}
use Rattle.tre_watch.specs.Outcome.{Kind, Known, SpeltPattern, SpeltChecks, IsOutcome, columns as of_columns, faulty, judged, nothing, planned, signals as of_signals, watched}
use Rattle.tre_watch.specs.declared.fault.WatchFault.{WatchFault}
use Rattle.tre_watch.specs.declared.form.Form.{Form}
use Rattle.tre_watch.specs.declared.reader.TheConstants.{FILE_MAX}

-- The file was read, whole or to one byte past what it may have, and this is so of its bytes.
pub record ChecksWereRead (checks : InputTold) (IsSo : List ℕ → Type 0) : Type 0 where
  pub comes : OfBytes checks IsSo
  pub few : length comes.bytes ≤ FILE_MAX + 1
  pub all : length comes.bytes ≤ FILE_MAX → IsAtEnd checks.now.left

-- The file is told, and this is so of its bytes.
pub record ChecksAreTold (checks : InputTold) (IsSo : List ℕ → Type 0) : Type 0 where
  pub bytes : List ℕ
  pub told : checks.before.file ≡ Some bytes
  pub is_so : IsSo bytes

-- one of these ways to say what is so of the file's bytes
abbrev pub Saying : Type 1
Saying = (List ℕ → Type 0) → Type 0

-- A file of checks of this kind says these, at the scale.
abbrev pub SayChecks : Saying → Kind → ℕ → SpeltChecks → Type 0
SayChecks Says kind scale checks =
    Says (λ bytes. IsOutcome kind scale bytes (planned checks))

-- It is refused so.
abbrev pub SayFault : Saying → Kind → ℕ → WatchFault → Type 0
SayFault Says kind scale fault = Says (λ bytes. IsOutcome kind scale bytes (faulty fault))

-- the name of its check for each pattern, of which a check with an arrow has two
abbrev pub names_each : List (List ℕ) → List Form → List (List ℕ)
names_each (name ∷ names) (form ∷ forms) =
    (if has_arrow form then name ∷ name ∷ [] else name ∷ []) ++ names_each names forms
names_each names forms = []

-- patterns, each behind its label
abbrev pub labelled : List (List ℕ) → List SpeltPattern → List Sought
labelled (label ∷ labels) (pattern ∷ patterns) =
    record { label = label; tree = pattern.tree; names = pattern.names }
    ∷ labelled labels patterns
labelled labels patterns = []

-- A file that is watched says these patterns at the scale. The label of each is its name and a
-- space.
pub record SayPatterns (Says : Saying) (scale : ℕ) (patterns : List Sought) : Type 0 where
  pub checks : SpeltChecks
  pub says : SayChecks Says watched scale checks
  pub are : patterns
      ≡ labelled (map (λ name. name ++ codes " ") (names_each checks.names checks.forms))
      checks.patterns

-- the definitions of columns that are known, and those of signals
abbrev pub columns_in : Known → List Defined
columns_in nothing = []
columns_in (of_signals definitions) = []
columns_in (of_columns definitions) = definitions

abbrev pub signals_in : Known → List SignalDefined
signals_in nothing = []
signals_in (of_signals definitions) = definitions
signals_in (of_columns definitions) = []

-- A file that is judged behind known definitions says checks of these patterns and forms at the
-- scale, and these are all definitions. The label of each pattern is its check's name.
pub record SayVerdicts (Says : Saying) (known : Known) (scale : ℕ) (patterns : List Sought)
    (forms : List Form) (lets : List Defined) (signals : List SignalDefined) : Type 0 where
  pub checks : SpeltChecks
  pub says : SayChecks Says (judged known) scale checks
  pub are : patterns ≡ labelled (names_each checks.names checks.forms) checks.patterns
  pub formed : forms ≡ checks.forms
  pub by_columns : lets ≡ columns_in checks.known
  pub by_signals : signals ≡ signals_in checks.known
