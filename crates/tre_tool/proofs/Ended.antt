-- How a run ended: the words ask for nothing, the file of checks couldn't be read, memory was
-- wanting, or what they ask for was answered.
use Rattle.std.proofs.Common.{◌≡◌, ◌≢◌, ℕ, zero, suc, ◌<◌, Result, Ok, Err, refl, inl, inr, arith}
use Rattle.tre_answer.specs.Ends.{EndsOver}
use Rattle.tre_feed.specs.declared.fault.Fault.{Fault}
use Rattle.tre_feed.specs.declared.fault.Fault.TheVariants.{Trace as FaultTrace, TooLong as FaultTooLong, TooManyZones as FaultTooMany, Read as FaultRead, Write as FaultWrite}
use Rattle.tre_feed.specs.Input.{InputTold}
use Rattle.tre_tell.specs.Outputs.{OutputTold}
use Rattle.tre_words.specs.declared.job.Job.{Job}
use Rattle.tre_tool.specs.Checks.{ChecksWereRead}
use Rattle.tre_tool.specs.Parts.{done_status}
use Rattle.tre_tool.specs.Request.{JobIsRefused, GiveNone}
use Rattle.tre_tool.specs.Run.{EndsUnread, EndsMemory, AsksAs, EndsAs}
use Rattle.tre_tool.specs.Status.{fault_status}
use Rattle.tre_tool.specs.declared.status.Status.{Status}
use Rattle.tre_tool.specs.declared.status.Status.TheVariants.{Done, Usage, Expression, Minus, Definitions, Watch, Trace, InputTooLong, TooManyZones, ReadFault, WriteFault, Failed, Memory}

-- An answer, by how many checks fail, or what ended it.
abbrev pub Answer : Type 0
Answer = Result ℕ Fault

-- how a run ends that was answered so
abbrev pub answered_status : Answer → Status
answered_status (Ok failed) = done_status failed
answered_status (Err fault) = fault_status fault

some_failed : (failed : ℕ) → 0 < failed → Failed failed ≡ done_status failed
some_failed zero some = absurd (omega (arith, some))
some_failed (suc more) some = refl

module _ (Gives : Job → Type 0) (checks input : InputTold) (output : OutputTold) where
  pub data Ended (status : Status) : Type 0 where
    by_usage : status ≡ Usage → GiveNone Gives → Ended status
    by_refusal : JobIsRefused Gives (ChecksWereRead checks) status → Ended status
    by_unread : status ≡ ReadFault → EndsUnread Gives checks input output → Ended status
    by_memory : status ≡ Memory → EndsMemory Gives checks input output → Ended status
    by_answer : (answer : Answer) → status ≡ answered_status answer
        → AsksAs Gives checks (λ request. EndsOver request input output answer) → Ended status

  -- Words that give no job end as such, or for want of memory.
  pub given_of : (status : Status) → Ended status → status ≢ Usage → status ≢ Memory
      → (job : Job) × Gives job
  given_of status (by_usage is ends) usage memory = absurd (usage is)
  given_of status (by_refusal ends) usage memory = (ends.job, ends.gives)
  given_of status (by_unread is ends) usage memory = (ends.job, ends.gives)
  given_of status (by_memory is ends) usage memory = absurd (memory is)
  given_of status (by_answer answer is ends) usage memory =
      (ends.request.job, ends.asks.gives)

  pub ended_of : (status : Status) → EndsAs Gives checks input output status → Ended status
  ended_of Done ends = by_answer (Ok 0) refl ends
  ended_of (Failed failed) ends = by_answer (Ok failed) (some_failed failed ends.0) ends.1
  ended_of Usage ends = by_usage refl ends.0
  ended_of (Expression fault) ends = by_refusal ends.0
  ended_of (Minus fault) ends = by_refusal ends.0
  ended_of (Definitions fault) ends = by_refusal ends.0
  ended_of (Watch fault) ends = by_refusal ends.0
  ended_of (Trace fault) ends = by_answer (Err (FaultTrace fault)) refl (record {
    request = ends.1.request;
    asks = ends.1.asks;
    is_so = (ends.0, ends.1.is_so);
  })
  ended_of InputTooLong ends = by_answer (Err FaultTooLong) refl ends
  ended_of (TooManyZones zones) ends = by_answer (Err (FaultTooMany zones)) refl ends
  ended_of ReadFault (inl ends) = by_unread refl ends
  ended_of ReadFault (inr ends) = by_answer (Err FaultRead) refl ends
  ended_of WriteFault ends = by_answer (Err FaultWrite) refl ends
  ended_of Memory ends = by_memory refl ends
