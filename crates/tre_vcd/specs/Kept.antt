-- What the reader keeps of the past: each field is what a look back over it finds.
use Rattle.std.specs.Prelude.{◌≡◌, ◌≤◌, ℕ, zero, suc, ◌+◌, ◌-◌, ◌^◌, min, Bool, true, false, ◌==◌, List, [], ◌∷◌, ◌++◌, length, map, All, Option, None, Some, slice_index, if◌then◌else◌}
use Rattle.std.specs.Option.{is_some, option_and_then, option_map, option_map_or, option_or}
use Rattle.std.specs.Str.{bytes_eq}
use Rattle.std.specs.Str.Parse.{digits_value}
use Rattle.tre_decimal.specs.Decimal.{is_numeral}
use Rattle.std.specs.Int.{bit_at}
use Rattle.tre_state.specs.Sieve.{MayBe}
use Rattle.tre_trace.specs.Reading.{Vocabulary}
use Rattle.tre_vcd.specs.VcdReading.{Statement, var, is_defined, time_at, scopes_at, timescale_at, in_dump, letters_at, happened_at, is_signal, is_event, identifier_in}
use Rattle.tre_vcd.specs.declared.variable.Variable.{Variable}
use Rattle.tre_vcd.specs.declared.variables.Variables.{Variables}
use Rattle.tre_vcd.specs.declared.past.Past.{Past}
use Rattle.tre_vcd.specs.declared.timescale.Tick.{Tick}
use Rattle.tre_vcd.specs.declared.needed.Needed.{Needed}
use Rattle.tre_vcd.specs.declared.found.Found.{Found}
use Rattle.tre_vcd.specs.Brief.{IsBriefOf}
use Rattle.tre_vcd.specs.Needs.{needs}
use Rattle.tre_vcd.specs.Timescale.{shifted, tick_of}

-- ---- names that have no definition

-- the identifier of this name among the variables that pass the test: that of its first declaration
abbrev pub identifier_of : (List ℕ → List ℕ → Bool) → List Statement → List ℕ → Option (List ℕ)
identifier_of test [] name = None
identifier_of test (var tokens ∷ past) name =
    option_or (identifier_of test past name) (identifier_in test (scopes_at past) name tokens)
identifier_of test (_ ∷ past) name = identifier_of test past name

-- whether the last letter is `1` (49)
abbrev pub ends_true : List ℕ → Bool
ends_true letters = slice_index letters (length letters - 1) == 49

-- the value of the last change of this identifier; false where there is none
abbrev pub value_at : List Statement → List ℕ → Bool
value_at past identifier = option_map_or ends_true (letters_at past identifier) false

-- the name is that of a variable which passes a test, and this holds of its identifier
abbrev pub is_of : (List ℕ → Option (List ℕ)) → (List ℕ → Bool) → List ℕ → Bool
is_of identified test name = option_map_or test (identified name) false

-- The names that have an identifier which passes the test, the first of which has bit i.
abbrev pub mask_from : (List ℕ → Option (List ℕ)) → (List ℕ → Bool) → ℕ → List (List ℕ) → ℕ
mask_from identified test i [] = 0
mask_from identified test i (name ∷ names) =
    (if option_map_or test (identified name) false then 2 ^ i else 0)
    + mask_from identified test (i + 1) names

-- The valuation of the propositions of these names, the first of which has bit 0.
abbrev pub valuation_behind : List Statement → List (List ℕ) → ℕ
valuation_behind past names = mask_from (identifier_of is_signal past) (value_at past) 0 names

-- The events of these names that happened at the last time, the first of which has bit 0.
abbrev pub events_at : List Statement → List (List ℕ) → ℕ
events_at past names = mask_from (identifier_of is_event past) (happened_at past) 0 names

-- ---- scopes

-- A scope of this name inside others.
pub record IsInner (name : List ℕ) (Outer : List ℕ → List ℕ → Type 0) (prefix lens : List ℕ) : Type
    0 where
  pub front : List ℕ
  pub front_lens : List ℕ
  pub text : prefix ≡ front ++ (name ++ 46 ∷ [])
  pub starts : lens ≡ front_lens ++ length front ∷ []
  pub outer : Outer front front_lens

-- The text is the names of the scopes, the outermost first, each with a full stop (46) behind it,
-- and it was so long before each of them.
abbrev pub AreScopes : List (List ℕ) → List ℕ → List ℕ → Type 0
AreScopes [] prefix lens = (prefix ≡ []) × (lens ≡ [])
AreScopes (name ∷ scopes) prefix lens = IsInner name (AreScopes scopes) prefix lens

-- ---- variables

abbrev pub identifier_kept : Variable → Option (List ℕ)
identifier_kept variable = option_map (λ bytes. bytes.items) variable.identifier

abbrev pub has_identifier : Option (List ℕ) → List ℕ → Bool
has_identifier None identifier = false
has_identifier (Some own) identifier = bytes_eq own identifier

-- the identifier of the variable at a place; none where there is no such variable
abbrev pub identifier_at : List Variable → ℕ → Option (List ℕ)
identifier_at [] k = None
identifier_at (variable ∷ variables) zero = identifier_kept variable
identifier_at (variable ∷ variables) (suc k) = identifier_at variables k

-- Each identifier may have the place of its variable.
pub record IsSieveOf (variables : List Variable) (sieve : List ℕ) : Type 0 where
  pub each : (k : ℕ) (identifier : List ℕ) → identifier_at variables k ≡ Some identifier
      → MayBe sieve identifier k

-- The variables are those of the first names, and the names behind them have no identifier.
abbrev pub AreKnown : (List ℕ → Option (List ℕ)) → List (List ℕ) → List Variable → Type 0
AreKnown identified [] variables = variables ≡ []
AreKnown identified (name ∷ names) [] = (identified name ≡ None) × AreKnown identified names []
AreKnown identified (name ∷ names) (variable ∷ variables) =
    (identifier_kept variable ≡ identified name) × AreKnown identified names variables

-- What is kept of the identifiers of these names.
pub record KeepsNames (identified : List ℕ → Option (List ℕ)) (names : List (List ℕ))
    (kept : Variables) : Type 0 where
  pub known : AreKnown identified names kept.list.items
  pub sieve : IsSieveOf kept.list.items kept.sieve

-- the identifiers, once a name has been declared with one: its first declaration counts
abbrev pub and_declared : (List ℕ → Option (List ℕ)) → List ℕ → List ℕ → List ℕ
    → Option (List ℕ)
and_declared identified name identifier other =
    option_or (identified other) (if bytes_eq other name then Some identifier else None)

-- The bits are those of the variables that have this identifier.
pub record AreHaving (variables : List Variable) (identifier : List ℕ) (bits : ℕ) : Type 0 where
  pub sound : (k : ℕ) → bit_at bits k ≡ 1 → identifier_at variables k ≡ Some identifier
  pub whole : (k : ℕ) → identifier_at variables k ≡ Some identifier → bit_at bits k ≡ 1

-- how long a tick takes, where this is known
abbrev pub tick_kept : Past → Option Tick
tick_kept kept = option_and_then (λ tick. tick) kept.tick

-- ---- all fields

-- Nothing has changed, and no event has happened.
pub record IsQuiet (past : List Statement) : Type 0 where
  pub values : (identifier : List ℕ) → letters_at past identifier ≡ None
  pub events : (identifier : List ℕ) → happened_at past identifier ≡ false

-- Each field is its look-back, for propositions and events of these names. Before the declarations
-- end it is quiet, and then it is told which identifiers are short.
pub record KnowsOfPast (names event_names : List (List ℕ)) (kept : Past) (past : List Statement) :
    Type 0
  where
    pub defined : kept.is_defined ≡ is_defined past
    pub dump : kept.in_dump ≡ in_dump past
    pub time : kept.time ≡ time_at past
    pub scopes : AreScopes (scopes_at past) kept.scopes.prefix.items kept.scopes.lens.items
    pub tick : kept.tick ≡ option_map tick_of (timescale_at past)
    pub propositions : KeepsNames (identifier_of is_signal past) names kept.propositions
    pub events : KeepsNames (identifier_of is_event past) event_names kept.events
    pub values : kept.values ≡ valuation_behind past names
    pub happened : kept.happened ≡ events_at past event_names
    pub quiet : is_defined past ≡ false → IsQuiet past
    pub brief : is_defined past ≡ true → IsBriefOf (identifier_at kept.propositions.list.items)
        kept.brief

-- ---- names that must be declared

abbrev pub vocabulary_of : Found → Vocabulary
vocabulary_of found = needs found.needed.value

-- the names that have no definition
abbrev pub plain_by : Needed → Vocabulary
plain_by needed = record {
  names = map (λ name. name.items) needed.names.keys;
  events = map (λ name. name.items) needed.events.keys;
}

abbrev pub plain_of : Found → Vocabulary
plain_of found = plain_by found.needed.value

-- which of the names have been declared by variables that pass the test
abbrev pub flags_of : (List ℕ → List ℕ → Bool) → List Statement → List (List ℕ) → List Bool
flags_of test past names = map (λ name. is_some (identifier_of test past name)) names

-- It is kept which of the names that are needed and have no definition were declared.
pub record KnowsNeeded (past : List Statement) (found : Found) : Type 0 where
  pub names : found.names.items ≡ flags_of is_signal past (plain_of found).names
  pub events : found.events.items ≡ flags_of is_event past (plain_of found).events

-- ---- how long names are

-- None of the names is longer.
pub record AreNoLonger (longest : ℕ) (asked : Vocabulary) : Type 0 where
  pub names : All (λ name. length name ≤ longest) asked.names
  pub events : All (λ name. length name ≤ longest) asked.events

-- ---- what a declaration declares

-- By variables that pass the test, the tokens declare this path alone.
pub record Declares (test : List ℕ → List ℕ → Bool) (scopes tokens : List (List ℕ))
    (identifier path : List ℕ) : Type 0 where
  pub is : (name : List ℕ) → identifier_in test scopes name tokens
      ≡ (if bytes_eq name path then Some identifier else None)

-- By variables that pass the test, the tokens declare no name.
pub record DeclaresNone (test : List ℕ → List ℕ → Bool) (scopes tokens : List (List ℕ)) : Type 0
  where
    pub is : (name : List ℕ) → identifier_in test scopes name tokens ≡ None

-- By variables that pass the test, the tokens declare no name that isn't longer.
pub record DeclaresNoneWithin (longest : ℕ) (test : List ℕ → List ℕ → Bool)
    (scopes tokens : List (List ℕ)) : Type 0 where
  pub is : (name : List ℕ) → length name ≤ longest → identifier_in test scopes name tokens ≡ None

-- ---- times

-- The number that digits write, times 10^more * 10^-less; past 2^64 - 1 it stays there.
abbrev pub shifted_digits : ℕ → ℕ → List ℕ → Option ℕ
shifted_digits more less digits =
    if is_numeral digits
    then option_map (λ exact. min exact (2 ^ 64 - 1)) (shifted more less (digits_value 10 digits))
    else None
