-- A text of definitions says one thing, in each format.
use Rattle.std.proofs.Common.{◌≡◌, ◌≢◌, ◌∙◌, ℕ, List, [], Option, None, Some, refl, sym}
use Rattle.tre_define.specs.Signals.{SignalDefined}
use Rattle.tre_define.specs.Texts.{parts_of}
use Rattle.tre_define.specs.declared.let_fault.LetFault.{LetFault}
use Rattle.tre_define.specs.declared.let_fault.LetFault.TheVariants.{BadLet, Twice, Memory as LetMemory}
use Rattle.tre_define.proofs.OneSignals.{same-definitions as same-signals, refused-or as signals-or, one-fault as one-signal-fault}
use Rattle.tre_num.specs.Defined.{Defined}
use Rattle.tre_num.proofs.OneReading.{same-definitions, refused-or, one-fault}
use Rattle.tre_tell.specs.Sought.{Sought}
use Rattle.tre_words.specs.declared.job.Format.{Format}
use Rattle.tre_words.specs.declared.job.Format.TheVariants.{Text as TextFormat, Vcd, Csv}
use Rattle.tre_words.specs.declared.job.Job.{Job}
use Rattle.tre_words.specs.declared.job.Mode.{Mode}
use Rattle.tre_words.specs.declared.job.Mode.TheVariants.{Offline, Online, Show, Generate, Watch, Check}
use Rattle.tre_tool.specs.Checks.{SayPatterns, Saying}
use Rattle.tre_tool.specs.Parts.{RefusesDefinitions}
use Rattle.tre_tool.specs.Request.{AreDefinedIn, AreDefinitions, AreRefusedIn, IsRefusalOf, IsRefusalOfWatch, IsRefusalOfChecks, Spell, text_read, texts_with}
use Rattle.tre_tool.specs.Status.{let_status}
use Rattle.tre_tool.specs.declared.status.Status.{Status}
use Rattle.tre_tool.specs.declared.status.Status.TheVariants.{Memory}

-- it is one list
pub defined_in_once : (format : Format) (parts : List (List ℕ)) (lets lets' : List Defined)
    (signals signals' : List SignalDefined) → AreDefinedIn format parts lets signals
    → AreDefinedIn format parts lets' signals' → (lets ≡ lets') × (signals ≡ signals')
defined_in_once Csv parts lets lets' signals signals' so so' =
    (same-definitions parts lets lets' so.0.spelt so'.0.spelt, so.1 ∙ sym so'.1)
defined_in_once Vcd parts lets lets' signals signals' so so' =
    (so.0 ∙ sym so'.0, same-signals parts signals signals' so.1.spelt so'.1.spelt)
defined_in_once TextFormat parts lets lets' signals signals' so so' =
    (so.0 ∙ sym so'.0, so.1 ∙ sym so'.1)

-- or it is refused
pub defined_in_or_refused : (format : Format) (parts : List (List ℕ)) (lets : List Defined)
    (signals : List SignalDefined) (fault : LetFault) → AreDefinedIn format parts lets signals
    → AreRefusedIn format parts fault → ⊥
defined_in_or_refused Csv parts lets signals fault so told =
    refused-or parts lets fault so.0 told
defined_in_or_refused Vcd parts lets signals fault so told =
    signals-or parts signals fault so.1 told
defined_in_or_refused TextFormat parts lets signals fault so told = told

-- in one way
pub refused_in_once : (format : Format) (parts : List (List ℕ)) (one other : LetFault)
    → AreRefusedIn format parts one → AreRefusedIn format parts other → one ≡ other
refused_in_once Csv parts one other told told' = one-fault parts one other told told'
refused_in_once Vcd parts one other told told' = one-signal-fault parts one other told told'
refused_in_once TextFormat parts one other told told' = absurd told

-- a run that reads an input reads the text
pub text_read-others : (mode : Mode) (text : Option (List ℕ)) → (mode ≡ Show → ⊥)
    → ((count : ℕ) → mode ≡ Generate count → ⊥) → text_read mode text ≡ text
text_read-others Offline text shown made = refl
text_read-others Online text shown made = refl
text_read-others (Watch file) text shown made = refl
text_read-others (Check file) text shown made = refl
text_read-others Show text shown made = absurd (shown refl)
text_read-others (Generate count) text shown made = absurd (made count refl)

-- the definitions of a job, from those of the text that its run reads
pub AreDefinitions-none : (job : Job) (lets : List Defined) (signals : List SignalDefined)
    → text_read job.mode job.lets ≡ None → lets ≡ [] → signals ≡ []
    → AreDefinitions job lets signals
AreDefinitions-none job lets signals none no_lets no_signals = rw none (no_lets, no_signals)

pub AreDefinitions-some : (job : Job) (text : List ℕ) (lets : List Defined)
    (signals : List SignalDefined) → text_read job.mode job.lets ≡ Some text
    → AreDefinedIn job.format (parts_of text) lets signals → AreDefinitions job lets signals
AreDefinitions-some job text lets signals given are = rw given are

-- ---- what a job's definitions are refused as

pub RefusesDefinitions-text : (job : Job) (text : List ℕ) (fault : LetFault)
    → text_read job.mode job.lets ≡ Some text
    → (fault ≢ LetMemory → AreRefusedIn job.format (parts_of text) fault)
    → let_status fault ≢ Memory → RefusesDefinitions job (let_status fault)
RefusesDefinitions-text job text (BadLet at) given refuses never = record {
  fault = BadLet at;
  is = refl;
  refused = record { text = text; given = given; refuses = refuses (λ e. cc) };
}
RefusesDefinitions-text job text (Twice at) given refuses never = record {
  fault = Twice at;
  is = refl;
  refused = record { text = text; given = given; refuses = refuses (λ e. cc) };
}
RefusesDefinitions-text job text LetMemory given refuses never = absurd (never refl)

pub IsRefusalOf-definitions : (job : Job) (status : Status) (patterns : List Sought)
    → RefusesDefinitions job status
    → Spell job.scale (texts_with job.expr job.minus) patterns → IsRefusalOf job status
IsRefusalOf-definitions job status patterns told spelt = rw told.is (record {
  patterns = patterns;
  sought = spelt;
  refused = told.refused;
})

pub IsRefusalOfWatch-definitions : (Says : Saying) (job : Job) (status : Status)
    (patterns : List Sought) → RefusesDefinitions job status
    → SayPatterns Says job.scale patterns → IsRefusalOfWatch Says job status
IsRefusalOfWatch-definitions Says job status patterns told said = rw told.is (record {
  patterns = patterns;
  sought = said;
  refused = told.refused;
})

pub IsRefusalOfChecks-definitions : (Says : Saying) (job : Job) (status : Status)
    → RefusesDefinitions job status → IsRefusalOfChecks Says job status
IsRefusalOfChecks-definitions Says job status told = rw told.is told.refused
