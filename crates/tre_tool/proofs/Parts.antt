-- The end of a run by the parts that it is made of.
use Rattle.std.proofs.Common.{◌≡◌, ◌≢◌, List, ℕ, zero, suc, ◌≤◌, ◌<◌, length, arith, Option, None, Some, IfSome, Result, Ok, Err, OnOk, OnErr, refl, sym, subst, inl, inr}
use Rattle.std.specs.Io.KnownBytes.{Appends, Consumes}
use Rattle.tre_answer.specs.Ends.{EndsOver, EndsDone}
use Rattle.tre_answer.specs.Request.{request_for, sought_in}
use Rattle.tre_answer.specs.declared.asked.Asked.{Asked}
use Rattle.tre_answer.specs.declared.asked.Definitions.{Definitions as Meanings}
use Rattle.tre_feed.specs.declared.fault.Fault.{Fault}
use Rattle.tre_feed.specs.declared.fault.Fault.TheVariants.{Trace as FaultTrace, TooLong as FaultTooLong, TooManyZones as FaultTooMany, Read as FaultRead, Write as FaultWrite, Memory as FaultMemory}
use Rattle.tre_feed.specs.Front.{IsUnreadable}
use Rattle.tre_feed.specs.Input.{InputTold, AllReadsGood, TakesAtMost}
use Rattle.tre_io.specs.Faults.{HasCause}
use Rattle.tre_io.specs.Written.{AppendsPart}
use Rattle.tre_io.specs.declared.faults.Failed.{Failed}
use Rattle.tre_tell.specs.Ends.{ReadsInput}
use Rattle.tre_tell.specs.Outputs.{OutputTold}
use Rattle.tre_tell.specs.Request.{Request}
use Rattle.tre_words.specs.Job.{GivesJob, file_of}
use Rattle.tre_words.specs.declared.job.Job.{Job}
use Rattle.tre_words.specs.declared.job.Mode.{Mode}
use Rattle.tre_words.specs.declared.job.Mode.TheVariants.{Offline, Online, Show, Generate, Watch as WatchMode, Check}
use Rattle.tre_words.specs.declared.job.WordsFault.{WordsFault}
use Rattle.tre_words.specs.declared.job.WordsFault.TheVariants.{Usage as WordsUsage, Memory as WordsMemory}
use Rattle.tre_words.proofs.Jobs.{job_unique}
use Rattle.tre_tool.specs.Checks.{ChecksWereRead, Saying}
use Rattle.tre_tool.specs.Parts.{done_status}
use Rattle.tre_tool.specs.Request.{IsAsked, IsRefusalOf, IsRefusalOfWatch, IsRefusalOfChecks, IsRefusalIn, AsksFor, JobIsRefused, GiveNone}
use Rattle.tre_tool.specs.Run.{ReadsChecks, ComesFirst, NothingDone, EndsAs, IsLineTold}
use Rattle.tre_tool.specs.Status.{words_status, fault_status}
use Rattle.tre_tool.specs.declared.status.Status.{Status}
use Rattle.tre_tool.specs.declared.status.Status.TheVariants.{Done, Usage, Expression, Minus, Definitions, Watch, Trace, InputTooLong, TooManyZones, ReadFault, WriteFault, Failed as ChecksFail, Memory}

-- ---- words

-- words that give no job, or that memory was wanting to read
pub EndsAs-words : (Gives : Job → Type 0) (checks input : InputTold) (output : OutputTold)
    (fault : WordsFault) → (fault ≡ WordsUsage → GiveNone Gives) → AllReadsGood checks
    → NothingDone input output → EndsAs Gives checks input output (words_status fault)
EndsAs-words Gives checks input output WordsUsage none good nothing =
    (none refl, nothing)
EndsAs-words Gives checks input output WordsMemory none good nothing =
    record { checks_read = good; reads = nothing.reads; stands = inl nothing }

-- what they ask for, from what is found of a job
pub AsksFor-of : (Gives : Job → Type 0) (Says : Saying) (job : Job) (meanings : Meanings)
    (asked : Asked) → Gives job
    → IsAsked job.mode Says job (sought_in asked) asked.forms.items meanings.columns.items
    meanings.signals.items
    → AsksFor Gives Says (request_for job meanings asked)
AsksFor-of Gives Says job meanings asked gives asks = record {
  gives = gives;
  lets = meanings.columns.items;
  signals = meanings.signals.items;
  asks = asks;
  recorded = refl;
}

-- ---- before the input is looked at

-- a status that is no refusal
never_refused : (Says : Saying) (mode : Mode) (job : Job) (status : Status)
    → (IsRefusalOf job status → ⊥) → (IsRefusalOfWatch Says job status → ⊥)
    → (IsRefusalOfChecks Says job status → ⊥) → IsRefusalIn mode Says job status → ⊥
never_refused Says Offline job status text file checks is = text is
never_refused Says Online job status text file checks is = text is
never_refused Says Show job status text file checks is = text is
never_refused Says (Generate count) job status text file checks is = is
never_refused Says (WatchMode name) job status text file checks is = file is
never_refused Says (Check name) job status text file checks is = checks is

-- The file of checks that the job names couldn't be read.
abbrev pub IsUnreadIn : Job → InputTold → Type 0
IsUnreadIn job checks = (file : List ℕ) × (file_of job.mode ≡ Some file) × IsUnreadable file checks

module _ (Gives : Job → Type 0) (checks input : InputTold) (output : OutputTold) (job : Job)
    (gives : Gives job) (nothing : NothingDone input output) where
  refused_by : (refusal : Status) → IsRefusalIn job.mode (ChecksWereRead checks) job refusal
      → JobIsRefused Gives (ChecksWereRead checks) refusal × NothingDone input output
  refused_by refusal is = (record { job = job; gives = gives; refuses = is }, nothing)

  -- what a job asks for wasn't found
  pub EndsAs-stopped : (status : Status)
      → (status ≢ Memory → status ≢ ReadFault
      → IsRefusalIn job.mode (ChecksWereRead checks) job status)
      → (status ≡ ReadFault → IsUnreadIn job checks)
      → (status ≢ ReadFault → AllReadsGood checks)
      → EndsAs Gives checks input output status
  EndsAs-stopped Memory refuses unread good =
      record { checks_read = good (λ e. cc); reads = nothing.reads; stands = inl nothing }
  EndsAs-stopped ReadFault refuses unread good =
      let is = unread refl in
      inl (record {
        job = job;
        gives = gives;
        file = is.0;
        named = is.1;
        unread = is.2;
        nothing = nothing;
      })
  EndsAs-stopped (Expression fault) refuses unread good =
      refused_by (Expression fault) (refuses (λ e. cc) (λ e. cc))
  EndsAs-stopped (Minus fault) refuses unread good =
      refused_by (Minus fault) (refuses (λ e. cc) (λ e. cc))
  EndsAs-stopped (Definitions fault) refuses unread good =
      refused_by (Definitions fault) (refuses (λ e. cc) (λ e. cc))
  EndsAs-stopped (Watch fault) refuses unread good =
      refused_by (Watch fault) (refuses (λ e. cc) (λ e. cc))
  EndsAs-stopped Done refuses unread good = absurd
      (never_refused (ChecksWereRead checks) job.mode job Done (λ is. is) (λ is. is)
      (λ is. is) (refuses (λ e. cc) (λ e. cc)))
  EndsAs-stopped Usage refuses unread good = absurd
      (never_refused (ChecksWereRead checks) job.mode job Usage (λ is. is) (λ is. is)
      (λ is. is) (refuses (λ e. cc) (λ e. cc)))
  EndsAs-stopped (Trace fault) refuses unread good = absurd
      (never_refused (ChecksWereRead checks) job.mode job (Trace fault) (λ is. is) (λ is. is)
      (λ is. is) (refuses (λ e. cc) (λ e. cc)))
  EndsAs-stopped InputTooLong refuses unread good = absurd
      (never_refused (ChecksWereRead checks) job.mode job InputTooLong (λ is. is) (λ is. is)
      (λ is. is) (refuses (λ e. cc) (λ e. cc)))
  EndsAs-stopped (TooManyZones zones) refuses unread good = absurd
      (never_refused (ChecksWereRead checks) job.mode job (TooManyZones zones) (λ is. is)
      (λ is. is) (λ is. is) (refuses (λ e. cc) (λ e. cc)))
  EndsAs-stopped (ChecksFail failed) refuses unread good = absurd
      (never_refused (ChecksWereRead checks) job.mode job (ChecksFail failed) (λ is. is)
      (λ is. is) (λ is. is) (refuses (λ e. cc) (λ e. cc)))
  EndsAs-stopped WriteFault refuses unread good = absurd
      (never_refused (ChecksWereRead checks) job.mode job WriteFault (λ is. is) (λ is. is)
      (λ is. is) (refuses (λ e. cc) (λ e. cc)))

-- ---- the answer

-- it ended so, before its end
pub EndsAs-answered : (Gives : Job → Type 0) (checks input : InputTold)
    (output : OutputTold) (request : Request) (fault : Fault)
    → AsksFor Gives (ChecksWereRead checks) request → AllReadsGood checks
    → EndsOver request input output (Err fault)
    → EndsAs Gives checks input output (fault_status fault)
EndsAs-answered Gives checks input output request (FaultTrace fault) asks good over = (
  over.0,
  record { request = request; asks = asks; is_so = over.1 },
)
EndsAs-answered Gives checks input output request FaultTooLong asks good over =
    record { request = request; asks = asks; is_so = over }
EndsAs-answered Gives checks input output request (FaultTooMany zones) asks good over =
    record { request = request; asks = asks; is_so = over }
EndsAs-answered Gives checks input output request FaultRead asks good over =
    inr (record { request = request; asks = asks; is_so = over })
EndsAs-answered Gives checks input output request FaultWrite asks good over =
    record { request = request; asks = asks; is_so = over }
EndsAs-answered Gives checks input output request FaultMemory asks good over = record {
  checks_read = good;
  reads = over.0;
  stands = inr (record { request = request; asks = asks; is_so = over.1 });
}

some_behind : (n : ℕ) → 0 < suc n
some_behind n = omega (arith)

-- it was written
pub EndsAs-done : (Gives : Job → Type 0) (checks input : InputTold) (output : OutputTold)
    (request : Request) (failed : ℕ) → AsksFor Gives (ChecksWereRead checks) request
    → EndsDone failed request input output
    → EndsAs Gives checks input output (done_status failed)
EndsAs-done Gives checks input output request zero asks done =
    record { request = request; asks = asks; is_so = done }
EndsAs-done Gives checks input output request (suc more) asks done = (
  some_behind more,
  record { request = request; asks = asks; is_so = done },
)

-- an answer comes behind a look at the input, too
pub never_first-done : (failed : ℕ) → ComesFirst (done_status failed) → ⊥
never_first-done zero first = first
never_first-done (suc more) first = first

-- its end comes behind a look at the input
pub never_first : (fault : Fault) → ComesFirst (fault_status fault) → ⊥
never_first (FaultTrace fault) first = first
never_first FaultTooLong first = first
never_first (FaultTooMany zones) first = first
never_first FaultRead first = first
never_first FaultWrite first = first
never_first FaultMemory first = first

none_behind : (n : ℕ) → 0 ≤ n
none_behind n = omega (arith)

-- a call that tells a line, or fails
pub IsLineTold-of : {T : Type 0} (output : OutputTold) (line : List ℕ) (result : Result T Failed)
    → HasCause output.before.faults output.now.faults result
    → OnOk result (Appends output.before.written output.now.written line)
    → OnErr result (AppendsPart output.before.written output.now.written line)
    → IsLineTold output line
IsLineTold-of output line (Ok value) cause all part =
    inl (record { writes = cause.ok; written = all })
IsLineTold-of output line (Err fault) cause all part = inr (record {
  cause = cause.failed;
  count = part.count;
  behind = none_behind part.count;
  short = part.short;
  written = part.appends;
})

-- what was taken of a file
pub taken_of : (most : ℕ) (file left : Option (List ℕ)) → TakesAtMost most file left
    → (taken : List ℕ) × (length taken ≤ most) × Consumes file left taken
taken_of most file left takes = (takes.taken, takes.few, takes.front)

-- ---- the job that words give

-- what is so of the one is so of the other
pub of_job : (words : List (List ℕ)) (job other : Job) (IsSo : Job → Type 0) → GivesJob words job
    → GivesJob words other → IsSo job → IsSo other
of_job words job other IsSo gives gives' so =
    subst IsSo (job_unique words job other gives gives') so

-- what is so where its mode reads no input
pub kept_as : (words : List (List ℕ)) (job other : Job) (Kept : Type 0) → GivesJob words job
    → GivesJob words other → ((ReadsInput job.mode → ⊥) → Kept)
    → (ReadsInput other.mode → ⊥) → Kept
kept_as words job other Kept gives gives' kept = subst (λ (j : Job). (ReadsInput j.mode → ⊥)
    → Kept) (job_unique words job other gives gives') kept

-- what is so of its file of checks, if it has one
pub of_file : (words : List (List ℕ)) (job other : Job) (file : List ℕ)
    (IsSo : List ℕ → Type 0) → GivesJob words job → GivesJob words other
    → file_of other.mode ≡ Some file
    → ((name : List ℕ) → file_of job.mode ≡ Some name → IsSo name) → IsSo file
of_file words job other file IsSo gives gives' named so =
    so file (subst (λ (j : Job). file_of j.mode ≡ Some file)
    (sym (job_unique words job other gives gives')) named)

-- a name that is told is that of the file of each job, where it is so for each of them
pub of_named : (name : Option (List ℕ)) (words : List (List ℕ))
    → ((job : Job) (file : List ℕ) → GivesJob words job → file_of job.mode ≡ Some file
    → IfSome name (λ told. told ≡ file))
    → IfSome name (λ told. (job : Job) (file : List ℕ) → GivesJob words job
    → file_of job.mode ≡ Some file → told ≡ file)
of_named None words each = tt
of_named (Some told) words each = each

-- only words that name a file of checks have it read
pub kept_by : (words : List (List ℕ)) (job : Job) (Kept : Type 0) → GivesJob words job
    → ((ReadsChecks job.mode → ⊥) → Kept)
    → ((other : Job) → GivesJob words other → ReadsChecks other.mode → ⊥) → Kept
kept_by words job Kept gives kept never = kept (never job gives)
