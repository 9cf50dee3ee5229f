-- What becomes of a file: the checks that it says, or the fault of the first line that has one.
use Rattle.std.specs.Prelude.{◌≡◌, ℕ, ◌+◌, ◌⊎◌, nat_le, nat_lt, Bool, true, false, not, ◌||◌, MatchBool, is_some, None, List, [], ◌∷◌, ◌++◌, length, if◌then◌else◌}
use Rattle.std.specs.Char.{is_newline}
use Rattle.std.specs.List.{AllZip, list_any, slice_split}
use Rattle.tre_define.specs.Signals.{SignalDefined, name_of_signal, Spells as SpellsSignal}
use Rattle.tre_define.specs.Texts.{PartHasFault, named}
use Rattle.tre_define.specs.declared.let_fault.LetFault.{LetFault}
use Rattle.tre_define.specs.declared.let_fault.LetFault.TheVariants.{BadLet, Twice as DefinedTwice, Memory as LetMemory}
use Rattle.tre_num.specs.Defined.{Defined, name_of_let}
use Rattle.tre_num.specs.Definitions.{Spells as SpellsColumn}
use Rattle.tre_state.specs.Names.{place_of}
use Rattle.tre_state.specs.declared.names.TheConstants.{NAMES_MAX}
use Rattle.tre_trace.specs.Reading.{Vocabulary}
use Rattle.tre_syntax.specs.PatternTree.{PatternTree}
use Rattle.tre_parse.specs.Outcome.{spelt, refused, IsOutcome as ParsesTo}
use Rattle.tre_parse.specs.declared.fault.ParseFault.{ParseFault}
use Rattle.tre_watch.specs.declared.fault.WatchFault.{WatchFault}
use Rattle.tre_watch.specs.declared.fault.WatchFault.TheVariants.{TooLarge, BadLine, TooMany, Twice, Pattern, Empty, Memory}
use Rattle.tre_watch.specs.declared.form.Form.{Form}
use Rattle.tre_watch.specs.declared.reader.TheConstants.{FILE_MAX}
use Rattle.tre_watch.specs.Forms.{has_verdict}
use Rattle.tre_watch.specs.Lines.{Said, silence, mistake, check, definition, Says}

-- ---- what files say

-- A pattern, by its tree and the names of its propositions and events.
pub record SpeltPattern : Type 0 where
  pub tree : PatternTree
  pub names : Vocabulary

-- The definitions that are known, of the kind that the format of the input has: of the signals of a
-- dump, of columns, or none.
pub data Known : Type 0 where
  nothing : Known
  signals : List SignalDefined → Known
  columns : List Defined → Known

-- The names and forms of checks, in one order; the patterns of all, one behind another, two where
-- a form has an arrow; and the definitions.
pub record SpeltChecks : Type 0 where
  pub names : List (List ℕ)
  pub forms : List Form
  pub patterns : List SpeltPattern
  pub known : Known

-- before the first line
abbrev pub no_checks : Known → SpeltChecks
no_checks known = record { names = []; forms = []; patterns = []; known = known }

abbrev pub with_check : SpeltChecks → Form → List ℕ → List SpeltPattern → SpeltChecks
with_check checks form name patterns = record {
  names = checks.names ++ name ∷ [];
  forms = checks.forms ++ form ∷ [];
  patterns = checks.patterns ++ patterns;
  known = checks.known;
}

abbrev pub with_known : SpeltChecks → Known → SpeltChecks
with_known checks known = record {
  names = checks.names;
  forms = checks.forms;
  patterns = checks.patterns;
  known = known;
}

-- What a file says; or why it says no checks.
pub data Outcome : Type 0 where
  planned : SpeltChecks → Outcome
  faulty : WatchFault → Outcome

-- ---- what becomes of a line

-- The text spells this pattern at the scale, by the grammar of patterns.
abbrev pub SpellsPattern : ℕ → List ℕ → SpeltPattern → Type 0
SpellsPattern scale text pattern = ParsesTo scale text (spelt pattern.tree pattern.names)

-- This is the fault of the first of the texts that has one.
abbrev pub HasFirstFault : ℕ → List (List ℕ) → ParseFault → Type 0
HasFirstFault scale [] fault = ⊥
HasFirstFault scale (text ∷ texts) fault =
    ParsesTo scale text (refused fault)
    ⊎ ((pattern : SpeltPattern) × SpellsPattern scale text pattern
    × HasFirstFault scale texts fault)

-- What becomes of the texts of a check on this line: each spells a pattern, and On goes on with
-- these, or the line has a fault.
abbrev pub AfterTexts : ℕ → List (List ℕ) → ℕ → Outcome → (List SpeltPattern → Type 0) → Type 0
AfterTexts scale texts number outcome On =
    ((patterns : List SpeltPattern) × AllZip (SpellsPattern scale) texts patterns × On patterns)
    ⊎ ((fault : ParseFault) × HasFirstFault scale texts fault
    × (outcome ≡ faulty (Pattern number fault)))

-- The text is a definition of a new name, which goes behind the others.
abbrev pub GoesBehind : {D : Type 0} → (List ℕ → D → Type 0) → (D → List ℕ) → List ℕ → List D
    → List D → Type 0
GoesBehind Spells name_of text old new =
    (defined : _) × Spells text defined × (named name_of old (name_of defined) ≡ None)
    × (new ≡ old ++ defined ∷ [])

abbrev pub Defines : List ℕ → Known → Known → Type 0
Defines text (signals old) (signals new) = GoesBehind SpellsSignal name_of_signal text old new
Defines text (columns old) (columns new) = GoesBehind SpellsColumn name_of_let text old new
Defines text _ _ = ⊥

-- The fault of a line, by that of its definition.
abbrev pub let_fault : ℕ → LetFault → WatchFault
let_fault number (BadLet at) = BadLine number
let_fault number (DefinedTwice at) = Twice number
let_fault number LetMemory = Memory

-- The text is none, or one of a name that is defined; where nothing can be defined, none is.
abbrev pub HasLetFault : ℕ → List ℕ → Known → WatchFault → Type 0
HasLetFault number text nothing fault = fault ≡ BadLine number
HasLetFault number text (signals definitions) fault =
    (why : LetFault)
    × PartHasFault SpellsSignal name_of_signal definitions (length definitions + 1) text why
    × (fault ≡ let_fault number why)
HasLetFault number text (columns definitions) fault =
    (why : LetFault)
    × PartHasFault SpellsColumn name_of_let definitions (length definitions + 1) text why
    × (fault ≡ let_fault number why)

-- What becomes of the text of a definition on this line: On goes on with what is known then, or the
-- line has a fault.
abbrev pub AfterLet : Known → List ℕ → ℕ → Outcome → (Known → Type 0) → Type 0
AfterLet known text number outcome On =
    ((new : Known) × Defines text known new × On new)
    ⊎ ((fault : WatchFault) × HasLetFault number text known fault × (outcome ≡ faulty fault))

-- Checks that have a verdict stand only where verdicts are asked for.
abbrev pub may_stand : Bool → Form → Bool
may_stand verdicts form = verdicts || not (has_verdict form)

-- What becomes of a line behind these checks, by what it says. A check is refused where its form
-- may not stand, where there are as many as may be, or one of its name; else its texts come to
-- something. Where the line has no fault, On goes on.
abbrev pub Follows : Bool → ℕ → Said → SpeltChecks → ℕ → Outcome → (SpeltChecks → Type 0) → Type 0
Follows verdicts scale silence checks number outcome On = On checks
Follows verdicts scale mistake checks number outcome On = outcome ≡ faulty (BadLine number)
Follows verdicts scale (check form name texts) checks number outcome On =
    MatchBool (may_stand verdicts form)
    (MatchBool (nat_le NAMES_MAX (length checks.names))
    (outcome ≡ faulty (TooMany number))
    (MatchBool (is_some (place_of checks.names name))
    (outcome ≡ faulty (Twice number))
    (AfterTexts scale texts number outcome
    (λ patterns. On (with_check checks form name patterns)))))
    (outcome ≡ faulty (BadLine number))
Follows verdicts scale (definition text) checks number outcome On =
    AfterLet checks.known text number outcome (λ known. On (with_known checks known))

-- ---- what becomes of a file

-- Some check is there; and where verdicts are asked for, one that has one.
abbrev pub is_enough : Bool → List Form → Bool
is_enough verdicts forms = list_any (λ form. has_verdict form || not verdicts) forms

-- What becomes of no more lines.
abbrev pub ended : Bool → SpeltChecks → Outcome
ended verdicts checks = if is_enough verdicts checks.forms then planned checks else faulty Empty

-- What becomes of the lines from this one on, behind these checks.
unfoldable pub IsOutcomeFrom : Bool → ℕ → SpeltChecks → ℕ → List (List ℕ) → Outcome → Type 0
IsOutcomeFrom verdicts scale checks number [] outcome = outcome ≡ ended verdicts checks
IsOutcomeFrom verdicts scale checks number (line ∷ lines) outcome =
    (said : Said) × Says line said
    × Follows verdicts scale said checks number outcome
    (λ checks. IsOutcomeFrom verdicts scale checks (number + 1) lines outcome)

abbrev pub ComesTo : Bool → Known → ℕ → List ℕ → Outcome → Type 0
ComesTo verdicts known scale bytes outcome =
    MatchBool (nat_lt FILE_MAX (length bytes))
    (outcome ≡ faulty TooLarge)
    (IsOutcomeFrom verdicts scale (no_checks known) 1 (slice_split is_newline bytes) outcome)

-- A file of checks is read to be watched, and then all are plain; or to be judged, and then its
-- definitions go behind those that are known.
pub data Kind : Type 0 where
  watched : Kind
  judged : Known → Kind

-- The file has this outcome at the scale. It has exactly one, and want of memory aside it is what
-- `read_plan` answers, or `read_checks`.
abbrev pub IsOutcome : Kind → ℕ → List ℕ → Outcome → Type 0
IsOutcome watched scale bytes outcome = ComesTo false nothing scale bytes outcome
IsOutcome (judged known) scale bytes outcome = ComesTo true known scale bytes outcome
