-- What the parts of a run promise each other.
use Rattle.std.specs.Prelude.{◌≡◌, ◌≢◌, ℕ, zero, suc, List, [], ◌∷◌, codes, length, Option, None, Some, Result, Ok, Err}
use Rattle.tre_answer.specs.Request.{FitsJob, sought_in}
use Rattle.tre_answer.specs.declared.asked.Asked.{Asked}
use Rattle.tre_feed.specs.Front.{IsUnreadable}
use Rattle.tre_feed.specs.Input.{AllReadsGood, InputTold}
use Rattle.tre_define.specs.Signals.{SignalDefined}
use Rattle.tre_define.specs.declared.let_fault.LetFault.{LetFault}
use Rattle.tre_num.specs.Defined.{Defined}
use Rattle.tre_parse.specs.declared.fault.ParseFault.{ParseFault}
use Rattle.tre_parse.specs.declared.fault.ParseFault.TheVariants.{TooLong, BadByte, Number, TooDeep, Syntax, EmptyInterval, TooManyNames, TooLarge, Memory as ParseMemory}
use Rattle.tre_syntax.specs.Pattern.{pattern_tree, names_of}
use Rattle.tre_syntax.specs.declared.pattern.Pattern.{Pattern}
use Rattle.tre_tell.specs.Ends.{ReadsInput}
use Rattle.tre_tell.specs.Sought.{Sought}
use Rattle.tre_words.specs.Job.{file_of}
use Rattle.tre_words.specs.declared.job.Job.{Job}
use Rattle.tre_watch.specs.Outcome.{Kind}
use Rattle.tre_tool.specs.Checks.{ChecksWereRead, Saying, SayFault}
use Rattle.tre_tool.specs.Request.{IsAsked, IsRefusalIn, IsRefusedText}
use Rattle.tre_tool.specs.declared.status.Status.{Status}
use Rattle.tre_tool.specs.declared.status.Status.TheVariants.{Done, Failed, Definitions, Watch as WatchStatus, ReadFault, Memory}

-- how a run ends whose answer was written, where so many checks fail
abbrev pub done_status : ℕ → Status
done_status zero = Done
done_status (suc more) = Failed (suc more)

-- how a run ended that went on as `?` does
abbrev pub status_of : Result ℕ Status → Status
status_of (Ok failed) = done_status failed
status_of (Err status) = status

-- what is looked for by a pattern that has no label
abbrev pub plain_sought : Pattern → Sought
plain_sought pattern =
    record { label = []; tree = pattern_tree pattern; names = names_of pattern }

-- a pattern, and another that is taken away from it, if there is one
abbrev pub patterns_with : Pattern → Option Pattern → List Sought
patterns_with pattern None = plain_sought pattern ∷ []
patterns_with pattern (Some taken) = plain_sought pattern ∷ plain_sought taken ∷ []

-- A job asks for these patterns and forms, with these definitions of names, as its texts or its
-- file of checks say, and no read of that failed.
pub record IsAskedBy (job : Job) (checks : InputTold) (asked : Asked) (lets : List Defined)
    (signals : List SignalDefined) : Type 0 where
  pub asks : IsAsked job.mode (ChecksWereRead checks) job (sought_in asked) asked.forms.items lets
      signals
  pub fits : FitsJob job asked
  pub alone : (ReadsInput job.mode → ⊥) → length asked.patterns.items ≡ 1
  pub good : AllReadsGood checks

-- Why it isn't known what a job asks for: a text or the file of checks is refused, the file
-- couldn't be read, or memory was wanting.
pub record StopsAsking (job : Job) (checks : InputTold) (status : Status) : Type 0 where
  pub wanting : status ≢ ReadFault → AllReadsGood checks
  pub refuses : status ≢ Memory → status ≢ ReadFault →
      IsRefusalIn job.mode (ChecksWereRead checks) job status
  pub unread : status ≡ ReadFault →
      (file : List ℕ) × (file_of job.mode ≡ Some file) × IsUnreadable file checks

-- The text of a job's definitions is refused so.
pub record RefusesDefinitions (job : Job) (status : Status) : Type 0 where
  pub fault : LetFault
  pub is : status ≡ Definitions fault
  pub refused : IsRefusedText job fault

-- A file of checks of this kind is refused so at the scale.
abbrev pub IsRefusalOfFile : Saying → Kind → ℕ → Status → Type 0
IsRefusalOfFile Says kind scale (WatchStatus fault) = SayFault Says kind scale fault
IsRefusalOfFile Says kind scale refusal = ⊥

-- Why a file of checks of this name and kind says nothing that is asked for.
pub record StopsChecks (file : List ℕ) (kind : Kind) (scale : ℕ) (checks : InputTold)
    (status : Status) : Type 0 where
  pub wanting : status ≢ ReadFault → AllReadsGood checks
  pub refuses : status ≢ Memory → status ≢ ReadFault →
      IsRefusalOfFile (ChecksWereRead checks) kind scale status
  pub unread : status ≡ ReadFault → IsUnreadable file checks

-- the words on a refused pattern, before its number
abbrev pub fault_words : ParseFault → List ℕ
fault_words TooLong = codes "TooLong"
fault_words (BadByte at) = codes "BadByte at "
fault_words (Number at) = codes "Number at "
fault_words (TooDeep at) = codes "TooDeep at "
fault_words (Syntax at) = codes "Syntax at "
fault_words (EmptyInterval at) = codes "EmptyInterval at "
fault_words (TooManyNames at) = codes "TooManyNames at "
fault_words (TooLarge nodes) = codes "TooLarge "
fault_words ParseMemory = codes "Memory"

-- where a pattern is refused, or how many nodes it has
abbrev pub fault_number : ParseFault → Option ℕ
fault_number TooLong = None
fault_number (BadByte at) = Some at
fault_number (Number at) = Some at
fault_number (TooDeep at) = Some at
fault_number (Syntax at) = Some at
fault_number (EmptyInterval at) = Some at
fault_number (TooManyNames at) = Some at
fault_number (TooLarge nodes) = Some nodes
fault_number ParseMemory = None
