-- What the functions inside promise each other: what a line says, what it adds to the checks before
-- it, and what is answered in the end.
use Rattle.std.specs.Prelude.{◌≡◌, ◌≢◌, ℕ, ◌+◌, ◌⊎◌, Bool, true, ◌&&◌, MatchBool, List, [], ◌∷◌, ◌++◌, length, map, replicate, Result, Ok, Err}
use Rattle.std.specs.List.{AllZip, list_all}
use Rattle.std.specs.Option.{option_map_or}
use Rattle.tre_syntax.specs.Pattern.{pattern_tree, names_of}
use Rattle.tre_syntax.specs.declared.pattern.Pattern.{Pattern}
use Rattle.tre_parse.specs.Outcome.{spelt, refused, IsOutcome as ParsesTo}
use Rattle.tre_parse.specs.declared.fault.ParseFault.{ParseFault}
use Rattle.tre_parse.specs.declared.fault.ParseFault.TheVariants.{Memory as ParseMemory}
use Rattle.tre_watch.specs.declared.checks.Checks.{Checks}
use Rattle.tre_watch.specs.declared.checks.Meanings.{Meanings}
use Rattle.tre_watch.specs.declared.checks.Meanings.TheVariants.{Nothing, Signals, Columns}
use Rattle.tre_watch.specs.declared.fault.WatchFault.{WatchFault}
use Rattle.tre_watch.specs.declared.fault.WatchFault.TheVariants.{Memory, Pattern as PatternFault}
use Rattle.tre_watch.specs.declared.form.Form.{Form}
use Rattle.tre_watch.specs.declared.line.Check.{Check}
use Rattle.tre_watch.specs.declared.line.Line.{Line}
use Rattle.tre_watch.specs.declared.line.Line.TheVariants.{Silent, Bad, Check as CheckLine, Let}
use Rattle.tre_watch.specs.Forms.{has_verdict, patterns_in, word_of}
use Rattle.tre_watch.specs.Lines.{Said, silence, mistake, check, definition, AreTexts, IsNamed, begins_word, is_of_definition}
use Rattle.tre_watch.specs.Outcome.{SpeltPattern, SpeltChecks, Known, nothing, signals, columns, Outcome, planned, faulty, Defines, HasLetFault, HasFirstFault, SpellsPattern, IsOutcomeFrom}

-- ---- what a line says

-- The texts of a check's patterns; that of a second one has spaces for the bytes before it.
abbrev pub texts_of : Check → List (List ℕ)
texts_of found =
    found.first.now
    ∷ option_map_or (λ second. (replicate second.0 32 ++ second.1.now) ∷ []) found.second []

abbrev pub said_on : Line → Said
said_on Silent = silence
said_on Bad = mistake
said_on (CheckLine found) = check found.form found.name.now (texts_of found)
said_on (Let text) = definition text.now

-- whether one definition may stand there
abbrev pub may_define : List ℕ → Bool
may_define text = begins_word text && list_all is_of_definition text

-- This stands on a line behind the word of definitions.
abbrev pub IsLet : List ℕ → Said → Type 0
IsLet rest said =
    MatchBool (may_define rest) (said ≡ definition rest) (said ≡ mistake)

-- A check stands there, by the word in front, which isn't its name, and what stands behind that.
pub record IsWorded (word rest : List ℕ) (form : Form) (name : List ℕ) (texts : List (List ℕ))
    : Type 0 where
  pub verdict : has_verdict form ≡ true
  pub is_word : word ≡ word_of form
  pub text : List ℕ
  pub named : IsNamed rest name text
  pub are : AreTexts form text texts

-- ---- what lines add

abbrev pub spelt_of : Pattern → SpeltPattern
spelt_of pattern = record { tree = pattern_tree pattern; names = names_of pattern }

abbrev pub spelt_in : List Pattern → List SpeltPattern
spelt_in patterns = map spelt_of patterns

abbrev pub known_in : Meanings → Known
known_in Nothing = nothing
known_in (Signals definitions) = signals definitions.items
known_in (Columns definitions) = columns definitions.items

abbrev pub spelt_checks : Checks → SpeltChecks
spelt_checks checks = record {
  names = checks.names;
  forms = checks.forms.items;
  patterns = spelt_in checks.patterns.items;
  known = known_in checks.meanings;
}

-- Each check has one name and one form, and the patterns are as many as these have.
pub record FitTogether (checks : SpeltChecks) : Type 0 where
  pub forms : length checks.forms ≡ length checks.names
  pub patterns : length checks.patterns ≡ patterns_in checks.forms

-- The answer is an outcome of which this is so, or want of memory.
abbrev pub AnswersChecks : (Outcome → Type 0) → Result Checks WatchFault → Type 0
AnswersChecks IsIt (Ok checks) = IsIt (planned (spelt_checks checks))
AnswersChecks IsIt (Err fault) = (fault ≡ Memory) ⊎ IsIt (faulty fault)

-- The line leads from some checks to others: what becomes of the lines behind it with those becomes
-- of it and them with these.
pub record LineLeads (verdicts : Bool) (scale number : ℕ) (line : List ℕ) (checks new : SpeltChecks)
    : Type 0 where
  pub on : (lines : List (List ℕ)) (outcome : Outcome)
      → IsOutcomeFrom verdicts scale new (number + 1) lines outcome
      → IsOutcomeFrom verdicts scale checks number (line ∷ lines) outcome
  pub fit : FitTogether checks → FitTogether new

-- Where there was no memory, the fault says so itself, and none inside it does.
abbrev pub NeverMemoryInside : WatchFault → Type 0
NeverMemoryInside (PatternFault number fault) = fault ≢ ParseMemory
NeverMemoryInside _ = Unit {0}

-- It is no want of memory, and carries none.
abbrev pub IsNoWantOfMemory : WatchFault → Type 0
IsNoWantOfMemory fault = (fault ≢ Memory) × NeverMemoryInside fault

-- The line has this fault, or there was no memory.
pub record LineStops (verdicts : Bool) (scale number : ℕ) (line : List ℕ) (checks : SpeltChecks)
    (fault : WatchFault) : Type 0 where
  pub why : (fault ≡ Memory) ⊎ ((lines : List (List ℕ))
      → IsOutcomeFrom verdicts scale checks number (line ∷ lines) (faulty fault))
  pub never_memory : NeverMemoryInside fault

-- The text has this pattern; or it has this fault, or there was no memory.
abbrev pub FindsPattern : ℕ → List ℕ → ℕ → Result Pattern WatchFault → Type 0
FindsPattern scale text number (Ok pattern) =
    ParsesTo scale text (spelt (pattern_tree pattern) (names_of pattern))
FindsPattern scale text number (Err fault) =
    (fault ≡ Memory)
    ⊎ ((parsed : ParseFault) × ParsesTo scale text (refused parsed) × (parsed ≢ ParseMemory)
    × (fault ≡ PatternFault number parsed))

-- The fault of a line whose text has this fault.
abbrev pub IsFaultAt : ℕ → ParseFault → WatchFault → Type 0
IsFaultAt number parsed fault =
    ((parsed ≡ ParseMemory) × (fault ≡ Memory))
    ⊎ ((parsed ≢ ParseMemory) × (fault ≡ PatternFault number parsed))

-- The patterns of these texts went behind the others; or there was no memory, or a text has this
-- fault.
abbrev pub AddsPatterns : ℕ → List (List ℕ) → ℕ → List Pattern → List Pattern
    → Result (Unit {0}) WatchFault → Type 0
AddsPatterns scale texts number old new (Ok _) =
    (added : List Pattern) × (new ≡ old ++ added)
    × AllZip (SpellsPattern scale) texts (spelt_in added)
AddsPatterns scale texts number old new (Err fault) =
    (fault ≡ Memory)
    ⊎ ((parsed : ParseFault) × HasFirstFault scale texts parsed × (parsed ≢ ParseMemory)
    × (fault ≡ PatternFault number parsed))

-- The definition of this text went behind those that are known; or there was no memory, or the line
-- has this fault.
abbrev pub AddsDefinition : List ℕ → ℕ → Known → Known → Result (Unit {0}) WatchFault → Type 0
AddsDefinition text number old new (Ok _) = Defines text old new
AddsDefinition text number old new (Err fault) =
    (fault ≡ Memory) ⊎ HasLetFault number text old fault
