-- What a job asks for, by its mode.
use Rattle.std.proofs.Common.{◌≡◌, ◌≢◌, ℕ, List, [], true, Option, None, Some, IfSome, refl, sym, ◌∙◌, ap, subst}
use Rattle.std.specs.Prelude.{is_some}
use Rattle.tre_answer.specs.Request.{FitForms}
use Rattle.tre_define.specs.Signals.{SignalDefined}
use Rattle.tre_feed.specs.Input.{AllReadsGood, InputTold}
use Rattle.tre_num.specs.Defined.{Defined}
use Rattle.tre_tell.specs.Ends.{ReadsInput}
use Rattle.tre_tell.specs.Sought.{Sought}
use Rattle.tre_tool.specs.Checks.{ChecksWereRead, Saying, SayPatterns}
use Rattle.tre_tool.specs.Parts.{IsRefusalOfFile, RefusesDefinitions, StopsAsking, StopsChecks}
use Rattle.tre_tool.proofs.Definings.{IsRefusalOfChecks-definitions, IsRefusalOfWatch-definitions}
use Rattle.tre_tool.specs.Request.{Spell, texts_with, known_by, AreDefinitions, IsAsked, IsRefusalOf, IsRefusalOfChecks, IsRefusalOfWatch, IsRefusalIn}
use Rattle.tre_tool.specs.declared.status.Status.{Status}
use Rattle.tre_tool.specs.declared.status.Status.TheVariants.{Done, Usage, Expression, Minus, Definitions, Watch as WatchStatus, Trace, InputTooLong, TooManyZones, ReadFault, WriteFault, Failed, Memory}
use Rattle.tre_watch.specs.Outcome.{judged, watched}
use Rattle.tre_watch.specs.declared.form.Form.{Form}
use Rattle.tre_words.specs.Job.{IsJob, file_of}
use Rattle.tre_words.specs.declared.job.Job.{Job}
use Rattle.tre_words.specs.declared.job.Mode.{Mode}
use Rattle.tre_words.specs.declared.job.Mode.TheVariants.{Offline, Online, Show, Generate, Watch, Check}

none_of : {X : Type 0} (o : Option X) → (is_some o ≡ true → ⊥) → o ≡ None
none_of None never = refl
none_of (Some x) never = absurd (never refl)

-- a run that reads no input takes nothing away
pub nothing_taken : (job : Job) → IsJob job → (ReadsInput job.mode → ⊥) → job.minus ≡ None
nothing_taken job is unread =
    none_of job.minus (λ some. unread (subst ReadsInput (sym (is.together.minus some)) tt))

-- a refusal isn't that a file couldn't be read
never_unread : (job : Job) (status : Status) → (status ≢ Memory → IsRefusalOf job status)
    → status ≢ ReadFault
never_unread job status refuses is =
    subst (λ (s : Status). IsRefusalOf job s) is (refuses (λ memory. cc))

-- the name of the file of checks is the one that the job has
pub named_so : (mode : Mode) (read name : List ℕ) (told : Option (List ℕ))
    → file_of mode ≡ Some read → IfSome told (λ t. t ≡ read) → file_of mode ≡ Some name
    → IfSome told (λ t. t ≡ name)
named_so mode read name told is by named =
    let here : read ≡ name = cc in
    subst (λ n. IfSome told (λ t. t ≡ n)) here by

-- Neither a made run nor one over a file of checks: its texts say what it asks for.
pub record IsOfTexts (mode : Mode) : Type 0 where
  pub made : (count : ℕ) → mode ≡ Generate count → ⊥
  pub checked : (file : List ℕ) → mode ≡ Check file → ⊥
  pub watched : (file : List ℕ) → mode ≡ Watch file → ⊥

pub asked_of_texts : (mode : Mode) (Says : Saying) (job : Job) (patterns : List Sought)
    (forms : List Form) (lets : List Defined) (signals : List SignalDefined) → IsOfTexts mode
    → Spell job.scale (texts_with job.expr job.minus) patterns → forms ≡ []
    → AreDefinitions job lets signals → IsAsked mode Says job patterns forms lets signals
asked_of_texts Offline Says job patterns forms lets signals of so none defined =
    record { are = so; formless = none; definitions = defined }
asked_of_texts Online Says job patterns forms lets signals of so none defined =
    record { are = so; formless = none; definitions = defined }
asked_of_texts Show Says job patterns forms lets signals of so none defined =
    record { are = so; formless = none; definitions = defined }
asked_of_texts (Generate count) Says job patterns forms lets signals of so none defined =
    absurd (of.made count refl)
asked_of_texts (Watch file) Says job patterns forms lets signals of so none defined =
    absurd (of.watched file refl)
asked_of_texts (Check file) Says job patterns forms lets signals of so none defined =
    absurd (of.checked file refl)

pub fit_texts : (mode : Mode) (forms : List Form) (count : ℕ) → IsOfTexts mode → forms ≡ []
    → FitForms mode forms count
fit_texts Offline forms count of none = none
fit_texts Online forms count of none = none
fit_texts Show forms count of none = none
fit_texts (Generate made) forms count of none = none
fit_texts (Watch file) forms count of none = none
fit_texts (Check file) forms count of none = absurd (of.checked file refl)

refusal_of_texts : (mode : Mode) (Says : Saying) (job : Job) (refusal : Status) → IsOfTexts mode
    → IsRefusalOf job refusal → IsRefusalIn mode Says job refusal
refusal_of_texts Offline Says job refusal of is = is
refusal_of_texts Online Says job refusal of is = is
refusal_of_texts Show Says job refusal of is = is
refusal_of_texts (Generate count) Says job refusal of is = absurd (of.made count refl)
refusal_of_texts (Watch file) Says job refusal of is = absurd (of.watched file refl)
refusal_of_texts (Check file) Says job refusal of is = absurd (of.checked file refl)

-- a made run, a watch, and checks that are judged, as what their modes ask for
pub asked_in : (mode other : Mode) (Says : Saying) (job : Job) (patterns : List Sought)
    (forms : List Form) (lets : List Defined) (signals : List SignalDefined) → mode ≡ other
    → IsAsked other Says job patterns forms lets signals
    → IsAsked mode Says job patterns forms lets signals
asked_in mode other Says job patterns forms lets signals is so =
    subst (λ (m : Mode). IsAsked m Says job patterns forms lets signals) (sym is) so

-- memory was wanting, and no read failed
pub StopsAsking-memory : (job : Job) (checks : InputTold) (status : Status) → status ≡ Memory
    → AllReadsGood checks → StopsAsking job checks status
StopsAsking-memory job checks status is good = rw is (record {
  wanting = λ other. good;
  refuses = λ never unread. absurd (never refl);
  unread = λ unread. absurd cc;
})

-- nor is one of definitions
definitions_unread : (job : Job) (status : Status) → (status ≢ Memory → RefusesDefinitions job status)
    → status ≢ ReadFault
definitions_unread job status refuses is =
    let told = refuses (λ memory. cc) in
    let both : ReadFault ≡ Definitions told.fault = sym is ∙ told.is in
    cc

-- a job in a mode is refused as that is
refusal_in : (mode other : Mode) (Says : Saying) (job : Job) (status : Status) → mode ≡ other
    → IsRefusalIn other Says job status → IsRefusalIn mode Says job status
refusal_in mode other Says job status is told =
    subst (λ (m : Mode). IsRefusalIn m Says job status) (sym is) told

-- a watch, whose definitions were refused behind its file of checks
pub StopsAsking-definitions : (job : Job) (checks : InputTold) (status : Status)
    (patterns : List Sought) (file : List ℕ) → job.mode ≡ Watch file
    → (status ≢ Memory → RefusesDefinitions job status)
    → SayPatterns (ChecksWereRead checks) job.scale patterns → AllReadsGood checks
    → StopsAsking job checks status
StopsAsking-definitions job checks status patterns file is refuses said good = record {
  wanting = λ other. good;
  refuses = λ never unread. refusal_in job.mode (Watch file) (ChecksWereRead checks) job status is
      (IsRefusalOfWatch-definitions (ChecksWereRead checks) job status patterns (refuses never)
      said);
  unread = λ unread. absurd (definitions_unread job status refuses unread);
}

-- checks that are judged, before whose file the definitions were refused
pub StopsAsking-words : (job : Job) (checks : InputTold) (status : Status) (file : List ℕ)
    → job.mode ≡ Check file → (status ≢ Memory → RefusesDefinitions job status)
    → AllReadsGood checks → StopsAsking job checks status
StopsAsking-words job checks status file is refuses good = record {
  wanting = λ other. good;
  refuses = λ never unread. refusal_in job.mode (Check file) (ChecksWereRead checks) job status is
      (IsRefusalOfChecks-definitions (ChecksWereRead checks) job status (refuses never));
  unread = λ unread. absurd (definitions_unread job status refuses unread);
}

-- what a file of checks is refused as, its watch is
watch_of_file : (Says : Saying) (job : Job) (status : Status)
    → IsRefusalOfFile Says watched job.scale status → IsRefusalOfWatch Says job status
watch_of_file Says job Done is = is
watch_of_file Says job Usage is = is
watch_of_file Says job (Expression fault) is = is
watch_of_file Says job (Minus fault) is = is
watch_of_file Says job (WatchStatus fault) is = is
watch_of_file Says job (Trace fault) is = is
watch_of_file Says job InputTooLong is = is
watch_of_file Says job (TooManyZones zones) is = is
watch_of_file Says job ReadFault is = is
watch_of_file Says job WriteFault is = is
watch_of_file Says job (Failed failed) is = is
watch_of_file Says job Memory is = is
watch_of_file Says job (Definitions fault) is = absurd is

-- and so are the checks that are judged
checks_of_file : (Says : Saying) (job : Job) (lets : List Defined) (signals : List SignalDefined)
    (status : Status) → AreDefinitions job lets signals
    → IsRefusalOfFile Says (judged (known_by job.format lets signals)) job.scale status
    → IsRefusalOfChecks Says job status
checks_of_file Says job lets signals Done defined is = is
checks_of_file Says job lets signals Usage defined is = is
checks_of_file Says job lets signals (Expression fault) defined is = is
checks_of_file Says job lets signals (Minus fault) defined is = is
checks_of_file Says job lets signals (WatchStatus fault) defined is = record {
  columns = lets;
  parts = signals;
  definitions = defined;
  refuses = is;
}
checks_of_file Says job lets signals (Trace fault) defined is = is
checks_of_file Says job lets signals InputTooLong defined is = is
checks_of_file Says job lets signals (TooManyZones zones) defined is = is
checks_of_file Says job lets signals ReadFault defined is = is
checks_of_file Says job lets signals WriteFault defined is = is
checks_of_file Says job lets signals (Failed failed) defined is = is
checks_of_file Says job lets signals Memory defined is = is
checks_of_file Says job lets signals (Definitions fault) defined is = absurd is

-- a watch, whose file of checks was refused or not read
pub StopsAsking-watch : (job : Job) (checks : InputTold) (status : Status) (file : List ℕ)
    → job.mode ≡ Watch file → StopsChecks file watched job.scale checks status
    → StopsAsking job checks status
StopsAsking-watch job checks status file is stops = record {
  wanting = stops.wanting;
  refuses = λ never unread. refusal_in job.mode (Watch file) (ChecksWereRead checks) job status is
      (watch_of_file (ChecksWereRead checks) job status (stops.refuses never unread));
  unread = λ unread. (file, ap file_of is, stops.unread unread);
}

-- and checks that are judged, behind the definitions of their words
pub StopsAsking-checks : (job : Job) (checks : InputTold) (status : Status) (file : List ℕ)
    (lets : List Defined) (signals : List SignalDefined) → job.mode ≡ Check file
    → AreDefinitions job lets signals
    → StopsChecks file (judged (known_by job.format lets signals)) job.scale checks status
    → StopsAsking job checks status
StopsAsking-checks job checks status file lets signals is defined stops = record {
  wanting = stops.wanting;
  refuses = λ never unread. refusal_in job.mode (Check file) (ChecksWereRead checks) job status is
      (checks_of_file (ChecksWereRead checks) job lets signals status defined
      (stops.refuses never unread));
  unread = λ unread. (file, ap file_of is, stops.unread unread);
}

-- one of its texts was refused, or memory was wanting
pub StopsAsking-texts : (job : Job) (checks : InputTold) (status : Status) → IsOfTexts job.mode
    → (status ≢ Memory → IsRefusalOf job status) → AllReadsGood checks
    → StopsAsking job checks status
StopsAsking-texts job checks status of refuses good = record {
  wanting = λ other. good;
  refuses = λ never unread. refusal_of_texts job.mode (ChecksWereRead checks) job status of
      (refuses never);
  unread = λ unread. absurd (never_unread job status refuses unread);
}
