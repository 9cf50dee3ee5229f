-- What words ask for: a job, the patterns that it looks for, and the definitions of their names.
-- `Gives` is the job that the words give, and `Says` what is so of the bytes of the file of checks
-- that they may name.
use Rattle.std.specs.Prelude.{◌≡◌, ◌⊎◌, ℕ, List, [], ◌∷◌, Option, None, Some}
use Rattle.std.specs.Option.{MatchOption, option_to_list}
use Rattle.tre_define.specs.Signals.{AreRefused, DefineSignals, SignalDefined}
use Rattle.tre_define.specs.Texts.{parts_of}
use Rattle.tre_define.specs.declared.let_fault.LetFault.{LetFault}
use Rattle.tre_generate.specs.FixedPattern.{fixed_tree, fixed_vocabulary}
use Rattle.tre_num.specs.Defined.{Defined}
use Rattle.tre_num.specs.Definitions.{Define, LetsAreRefused as IsRefusedAt}
use Rattle.tre_parse.specs.Outcome.{IsOutcome, spelt, refused}
use Rattle.tre_parse.specs.declared.fault.ParseFault.{ParseFault}
use Rattle.tre_syntax.specs.PatternTree.{PatternTree}
use Rattle.tre_tell.specs.Request.{Request}
use Rattle.tre_tell.specs.Sought.{Sought}
use Rattle.tre_trace.specs.Reading.{Vocabulary}
use Rattle.tre_watch.specs.Outcome.{Known, columns as of_columns, judged, nothing, signals as of_signals, watched}
use Rattle.tre_watch.specs.declared.fault.WatchFault.{WatchFault}
use Rattle.tre_watch.specs.declared.form.Form.{Form}
use Rattle.tre_words.specs.declared.job.Format.{Format}
use Rattle.tre_words.specs.declared.job.Format.TheVariants.{Text as TextFormat, Vcd, Csv}
use Rattle.tre_words.specs.declared.job.Job.{Job}
use Rattle.tre_words.specs.declared.job.Mode.{Mode}
use Rattle.tre_words.specs.declared.job.Mode.TheVariants.{Show, Generate, Watch, Check}
use Rattle.tre_answer.specs.Recorded.{recording_in}
use Rattle.tre_tool.specs.Checks.{Saying, SayFault, SayPatterns, SayVerdicts}
use Rattle.tre_tool.specs.declared.status.Status.{Status}
use Rattle.tre_tool.specs.declared.status.Status.TheVariants.{Expression, Minus, Definitions, Watch as WatchStatus}

abbrev pub alone : PatternTree → Vocabulary → List Sought
alone tree names = record { label = []; tree = tree; names = names } ∷ []

-- Each of the texts spells its pattern at this scale, within the limits. None has a label.
abbrev pub Spell : ℕ → List (List ℕ) → List Sought → Type 0
Spell scale [] [] = Unit {0}
Spell scale (text ∷ texts) (pattern ∷ patterns) =
    (pattern.label ≡ []) × IsOutcome scale text (spelt pattern.tree pattern.names)
    × Spell scale texts patterns
Spell scale texts patterns = ⊥

-- the texts of the pattern that is looked for, and of the one that is taken away, if there is one
abbrev pub texts_with : List ℕ → Option (List ℕ) → List (List ℕ)
texts_with text taken = text ∷ option_to_list taken

-- The patterns of a job: those of its texts, or of the file of a watch. A made run has its own.
abbrev pub ArePatterns : Mode → Saying → Job → List Sought → Type 0
ArePatterns (Generate count) Says job patterns = patterns ≡ alone fixed_tree fixed_vocabulary
ArePatterns (Watch file) Says job patterns = SayPatterns Says job.scale patterns
ArePatterns mode Says job patterns = Spell job.scale (texts_with job.expr job.minus) patterns

-- the text of definitions that a run reads, which reads an input: no other looks at it
abbrev pub text_read : Mode → Option (List ℕ) → Option (List ℕ)
text_read Show text = None
text_read (Generate count) text = None
text_read mode text = text

-- The parts of a text are these definitions: of columns, or of the signals of a dump.
abbrev pub AreDefinedIn : Format → List (List ℕ) → List Defined → List SignalDefined → Type 0
AreDefinedIn Csv parts lets signals = Define parts lets × (signals ≡ [])
AreDefinedIn Vcd parts lets signals = (lets ≡ []) × DefineSignals parts signals
AreDefinedIn TextFormat parts lets signals = (lets ≡ []) × (signals ≡ [])

abbrev pub AreRefusedIn : Format → List (List ℕ) → LetFault → Type 0
AreRefusedIn Csv parts fault = IsRefusedAt parts fault
AreRefusedIn Vcd parts fault = AreRefused parts fault
AreRefusedIn TextFormat parts fault = ⊥

-- The definitions that a job's run reads, none where it reads no text of them.
abbrev pub AreDefinitions : Job → List Defined → List SignalDefined → Type 0
AreDefinitions job lets signals =
    MatchOption (text_read job.mode job.lets) ((lets ≡ []) × (signals ≡ []))
    (λ text. AreDefinedIn job.format (parts_of text) lets signals)

-- the definitions that are known in a format
abbrev pub known_by : Format → List Defined → List SignalDefined → Known
known_by TextFormat lets signals = nothing
known_by Vcd lets signals = of_signals signals
known_by Csv lets signals = of_columns lets

-- Nothing is judged: the job asks for these patterns, with the definitions that its words give.
pub record AsksPlainly (ArePatterns : Job → List Sought → Type 0) (job : Job)
    (patterns : List Sought) (forms : List Form) (lets : List Defined)
    (signals : List SignalDefined) : Type 0 where
  pub are : ArePatterns job patterns
  pub formless : forms ≡ []
  pub definitions : AreDefinitions job lets signals

-- It asks for checks: its file says them behind the definitions that its words give.
pub record AsksVerdicts (Says : Saying) (job : Job) (patterns : List Sought) (forms : List Form)
    (lets : List Defined) (signals : List SignalDefined) : Type 0 where
  pub columns : List Defined
  pub parts : List SignalDefined
  pub definitions : AreDefinitions job columns parts
  pub verdicts : SayVerdicts Says (known_by job.format columns parts) job.scale patterns forms lets
      signals

-- A job in this mode asks for these patterns, the forms of their checks if they are judged, and
-- these definitions of names.
abbrev pub IsAsked : Mode → Saying → Job → List Sought → List Form → List Defined
    → List SignalDefined → Type 0
IsAsked (Check file) Says job patterns forms lets signals =
    AsksVerdicts Says job patterns forms lets signals
IsAsked mode Says job patterns forms lets signals =
    AsksPlainly (ArePatterns mode Says) job patterns forms lets signals

-- The text of the pattern that is taken away is, and that of the one that is looked for isn't.
pub record IsRefusedMinus (job : Job) (fault : ParseFault) : Type 0 where
  pub patterns : List Sought
  pub spelt : Spell job.scale (job.expr ∷ []) patterns
  pub text : List ℕ
  pub given : job.minus ≡ Some text
  pub refuses : IsOutcome job.scale text (refused fault)

-- The text of the job's definitions is refused so.
pub record IsRefusedText (job : Job) (fault : LetFault) : Type 0 where
  pub text : List ℕ
  pub given : text_read job.mode job.lets ≡ Some text
  pub refuses : AreRefusedIn job.format (parts_of text) fault

-- It is, and what the job looks for isn't: these patterns are it.
pub record AreRefusedDefinitions (AreSought : List Sought → Type 0) (job : Job) (fault : LetFault)
    : Type 0 where
  pub patterns : List Sought
  pub sought : AreSought patterns
  pub refused : IsRefusedText job fault

-- The file of checks is refused so behind the definitions of the job's words, which aren't.
pub record IsRefusedFile (Says : Saying) (job : Job) (fault : WatchFault) : Type 0 where
  pub columns : List Defined
  pub parts : List SignalDefined
  pub definitions : AreDefinitions job columns parts
  pub refuses : SayFault Says (judged (known_by job.format columns parts)) job.scale fault

-- What a job gives is refused so, before its input is looked at: the first of its texts that is.
abbrev pub IsRefusalOf : Job → Status → Type 0
IsRefusalOf job (Expression fault) = IsOutcome job.scale job.expr (refused fault)
IsRefusalOf job (Minus fault) = IsRefusedMinus job fault
IsRefusalOf job (Definitions fault) =
    AreRefusedDefinitions (Spell job.scale (texts_with job.expr job.minus)) job fault
IsRefusalOf job refusal = ⊥

-- A watch is refused so: its file of checks is, or the file isn't and the definitions are.
abbrev pub IsRefusalOfWatch : Saying → Job → Status → Type 0
IsRefusalOfWatch Says job (Definitions fault) =
    AreRefusedDefinitions (SayPatterns Says job.scale) job fault
IsRefusalOfWatch Says job (WatchStatus fault) = SayFault Says watched job.scale fault
IsRefusalOfWatch Says job refusal = ⊥

-- Checks with verdicts are: the definitions of the words are, or they aren't and the file is.
abbrev pub IsRefusalOfChecks : Saying → Job → Status → Type 0
IsRefusalOfChecks Says job (Definitions fault) = IsRefusedText job fault
IsRefusalOfChecks Says job (WatchStatus fault) = IsRefusedFile Says job fault
IsRefusalOfChecks Says job refusal = ⊥

-- A job in this mode is. Of a made run nothing is refused.
abbrev pub IsRefusalIn : Mode → Saying → Job → Status → Type 0
IsRefusalIn (Generate count) Says job refusal = ⊥
IsRefusalIn (Watch file) Says job refusal = IsRefusalOfWatch Says job refusal
IsRefusalIn (Check file) Says job refusal = IsRefusalOfChecks Says job refusal
IsRefusalIn mode Says job refusal = IsRefusalOf job refusal

-- The words give this job, and this is what it asks for, with the definitions by which bytes say
-- this.
pub record AsksFor (Gives : Job → Type 0) (Says : Saying) (request : Request) : Type 0 where
  pub gives : Gives request.job
  pub lets : List Defined
  pub signals : List SignalDefined
  pub asks : IsAsked request.job.mode Says request.job request.patterns request.forms lets signals
  pub recorded : request.recording ≡ recording_in request.job.format request.job.scale
      request.job.unit request.patterns lets signals

-- They give a job that is refused so.
pub record JobIsRefused (Gives : Job → Type 0) (Says : Saying) (refusal : Status) : Type 0 where
  pub job : Job
  pub gives : Gives job
  pub refuses : IsRefusalIn job.mode Says job refusal

abbrev pub GiveNone : (Job → Type 0) → Type 0
GiveNone Gives = (job : Job) → Gives job → ⊥

-- They ask for nothing: they give no job, or one that is refused.
abbrev pub AsksForNothing : (Job → Type 0) → Saying → Type 0
AsksForNothing Gives Says =
    GiveNone Gives ⊎ ((refusal : Status) × JobIsRefused Gives Says refusal)
