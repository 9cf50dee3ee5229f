-- The promise of a run: how it ends, what each status means, and what was written. `Gives` is the
-- job that the words give, and `checks` the source of the file of checks that they may name.
use Rattle.std.specs.Prelude.{◌≡◌, ◌⊎◌, ℕ, ◌≤◌, ◌<◌, Some, is_some, List, [], length, IfSome, IsTrue, String, false, map, string_bytes}
use Rattle.std.specs.Io.KnownBytes.{Consumes}
use Rattle.tre_answer.specs.Ends.{EndsDone, EndsTooMany, EndsWriteFault}
use Rattle.tre_feed.specs.Front.{IsUnreadable}
use Rattle.tre_feed.specs.Input.{InputTold, AllReadsGood}
use Rattle.tre_feed.specs.Comes.{Outcome, completes, refuses, exceeds}
use Rattle.tre_feed.specs.Outcome.{IsInputKind}
use Rattle.tre_io.specs.Faults.{CountRises}
use Rattle.tre_tell.specs.Ends.{ReadsInput, StandsAtMemory, EndsAtInput, EndsReadFault}
use Rattle.tre_tell.specs.Outputs.{OutputTold, NothingWritten}
use Rattle.tre_tell.specs.Request.{Request, outcome_for}
use Rattle.tre_tell.specs.Streams.{WroteText, WroteFront}
use Rattle.tre_words.specs.Job.{GivesJob, file_of}
use Rattle.tre_words.specs.declared.job.Job.{Job}
use Rattle.tre_words.specs.declared.job.Mode.{Mode}
use Rattle.tre_tool.specs.Checks.{ChecksWereRead, ChecksAreTold}
use Rattle.tre_tool.specs.Request.{AsksFor, JobIsRefused, GiveNone}
use Rattle.tre_tool.specs.declared.status.Status.{Status}
use Rattle.tre_tool.specs.declared.status.Status.TheVariants.{Done, Usage, Expression, Minus, Definitions, Watch, Trace, InputTooLong, TooManyZones, ReadFault, WriteFault, Failed, Memory}

abbrev pub Gives : {Z : Type 0} → List (String Z) → Job → Type 0
Gives words = GivesJob (map string_bytes words)

-- What was opened has such a name, and at most so many of its bytes were taken.
abbrev pub IsFrontOf : (List ℕ → Type 0) → ℕ → InputTold → Type 0
IsFrontOf IsName most input = IsTrue input.now.opened → IfSome input.before.name IsName
    × (taken : List ℕ) × (length taken ≤ most)
    × Consumes input.before.file input.now.left taken

abbrev pub ReadsChecks : Mode → Type 0
ReadsChecks mode = IsTrue (is_some (file_of mode))

-- One failure to read the file of checks was counted, where one is read.
abbrev pub ChecksFailed : Mode → InputTold → Type 0
ChecksFailed mode checks = ReadsChecks mode × CountRises checks.before.faults checks.now.faults

-- The statuses of words that give no job, and of those whose job is refused.
abbrev pub ComesFirst : Status → Type 0
ComesFirst Usage = Unit {0}
ComesFirst (Expression fault) = Unit {0}
ComesFirst (Minus fault) = Unit {0}
ComesFirst (Definitions fault) = Unit {0}
ComesFirst (Watch fault) = Unit {0}
ComesFirst status = ⊥

-- The input wasn't opened, no failure was counted, and nothing was written.
pub record NothingDone (input : InputTold) (output : OutputTold) : Type 0 where
  pub unopened : input.now.opened ≡ false
  pub reads : AllReadsGood input
  pub unwritten : NothingWritten output

-- The words name a file of checks that couldn't be opened or read. The input wasn't looked at.
pub record EndsUnread (Gives : Job → Type 0) (checks input : InputTold) (output : OutputTold)
    : Type 0 where
  pub job : Job
  pub gives : Gives job
  pub file : List ℕ
  pub named : file_of job.mode ≡ Some file
  pub unread : IsUnreadable file checks
  pub nothing : NothingDone input output

-- This is so of what the words ask for, as the file of checks that was read says.
pub record AsksAs (Gives : Job → Type 0) (checks : InputTold) (IsSo : Request → Type 0)
    : Type 0 where
  pub request : Request
  pub asks : AsksFor Gives (ChecksWereRead checks) request
  pub is_so : IsSo request

-- `Memory` may come at any time: before the input is open, or with what then stands in the output.
pub record EndsMemory (Gives : Job → Type 0) (checks input : InputTold) (output : OutputTold)
    : Type 0 where
  pub checks_read : AllReadsGood checks
  pub reads : AllReadsGood input
  pub stands : NothingDone input output
      ⊎ AsksAs Gives checks (λ request. StandsAtMemory request input output)

-- A line was told whole, or one failure to tell it was counted, and a first part of it was told.
abbrev pub IsLineTold : OutputTold → List ℕ → Type 0
IsLineTold output line = WroteText output line ⊎ WroteFront output [] line

-- The end of a run, status by status. What is refused is told before the input is looked at.
abbrev pub EndsAs : (Job → Type 0) → InputTold → InputTold → OutputTold → Status → Type 0
EndsAs Gives checks input output Done =
    AsksAs Gives checks (λ request. EndsDone 0 request input output)
EndsAs Gives checks input output (Failed failed) =
    (0 < failed) × AsksAs Gives checks (λ request. EndsDone failed request input output)
EndsAs Gives checks input output Usage = GiveNone Gives × NothingDone input output
EndsAs Gives checks input output (Trace fault) = IsInputKind fault.kind
    × AsksAs Gives checks (λ request. EndsAtInput (refuses fault) request input output)
EndsAs Gives checks input output InputTooLong =
    AsksAs Gives checks (λ request. EndsAtInput exceeds request input output)
EndsAs Gives checks input output (TooManyZones zones) =
    AsksAs Gives checks (λ request. EndsTooMany zones request input output)
EndsAs Gives checks input output ReadFault = EndsUnread Gives checks input output
    ⊎ AsksAs Gives checks (λ request. EndsReadFault request input output)
EndsAs Gives checks input output WriteFault =
    AsksAs Gives checks (λ request. EndsWriteFault request input output)
EndsAs Gives checks input output Memory = EndsMemory Gives checks input output
EndsAs Gives checks input output refusal =
    JobIsRefused Gives (ChecksWereRead checks) refusal × NothingDone input output

abbrev pub IsUnlessMemory : Status → Status → Type 0
IsUnlessMemory wanted status = (status ≡ wanted) ⊎ (status ≡ Memory)

-- It is one that a run has which was answered: its answer was written, or has too many zones.
abbrev pub IsAnswered : Status → Type 0
IsAnswered Done = Unit {0}
IsAnswered (Failed checks) = Unit {0}
IsAnswered (TooManyZones zones) = Unit {0}
IsAnswered status = ⊥

-- the status that must come for what the input comes to; want of memory is free
abbrev pub IsStatusFor : Outcome → Status → Type 0
IsStatusFor completes status = IsAnswered status ⊎ (status ≡ Memory)
IsStatusFor (refuses fault) status = IsUnlessMemory (Trace fault) status
IsStatusFor exceeds status = IsUnlessMemory InputTooLong status

-- What the words ask for decides the status, where no fault was counted: no job, a refusal, or what
-- the input comes to, where its bytes are told and those of the file of checks, if there is one.
pub record RunIsComplete (Gives : Job → Type 0) (checks input : InputTold) (output : OutputTold)
    (status : Status) : Type 0 where
  pub no_job : GiveNone Gives → IsUnlessMemory Usage status
  pub refused : (refusal : Status) (told : JobIsRefused Gives (ChecksAreTold checks) refusal) →
      ¬ ChecksFailed told.job.mode checks → IsUnlessMemory refusal status
  pub read : (request : Request) → AsksFor Gives (ChecksAreTold checks) request →
      ReadsInput request.job.mode → ¬ ChecksFailed request.job.mode checks →
      ¬ CountRises input.before.faults input.now.faults →
      ¬ CountRises output.before.faults output.now.faults →
      IfSome input.before.file (λ bytes. IsStatusFor (outcome_for request bytes) status)
  pub unread : (request : Request) → AsksFor Gives (ChecksAreTold checks) request →
      ¬ ReadsInput request.job.mode → ¬ CountRises output.before.faults output.now.faults →
      IsUnlessMemory Done status
