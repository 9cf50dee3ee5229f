-- How the answering of a request ends that is told as its input comes, what each end means, and
-- what was written.
use Rattle.std.specs.Prelude.{◌≡◌, ◌⊎◌, ℕ, ◌≤◌, Bool, true, false, List, None, IsTrue, MatchBool, length, Result, Ok, Err}
use Rattle.std.specs.Io.KnownBytes.{IsAtEnd}
use Rattle.tre_feed.specs.Front.{IsUnreadable}
use Rattle.tre_feed.specs.Input.{InputTold, AllReadsGood, WereRead}
use Rattle.tre_feed.specs.Comes.{Outcome, refuses, exceeds}
use Rattle.tre_feed.specs.Outcome.{IsInputKind}
use Rattle.tre_feed.specs.declared.fault.Fault.{Fault}
use Rattle.tre_feed.specs.declared.fault.Fault.TheVariants.{Trace, TooLong, Read, Write, Memory}
use Rattle.tre_trace.specs.Reading.{Stretch}
use Rattle.tre_words.specs.declared.job.Mode.{Mode}
use Rattle.tre_words.specs.declared.job.Mode.TheVariants.{Online, Show, Generate, Watch}
use Rattle.tre_tell.specs.Online.{BlocksStand, IsPrompt, IsNextBlock, IsOnlineAnswer}
use Rattle.tre_tell.specs.Outputs.{OutputTold, NothingWritten}
use Rattle.tre_tell.specs.Request.{Request, whole_recording, outcome_for}
use Rattle.tre_tell.specs.Streams.{OfBytes, WroteText, WroteFront}

abbrev pub ReadsInput : Mode → Type 0
ReadsInput Show = ⊥
ReadsInput (Generate count) = ⊥
ReadsInput mode = Unit {0}

-- whether the text is written as the input comes, and not at once
abbrev pub as_it_comes : Mode → Bool
as_it_comes Online = true
as_it_comes (Watch file) = true
as_it_comes mode = false

-- What stands of a text that isn't whole: nothing, or these blocks if it is written as it comes.
abbrev pub StandsSoFar : Request → OutputTold → List Stretch → Type 0
StandsSoFar request output stretches = MatchBool (as_it_comes request.job.mode)
    (BlocksStand request output stretches) (NothingWritten output)

-- The input has a first fault, or is too long. The blocks of all stretches before that stand there.
pub record EndsAtInput (outcome : Outcome) (request : Request) (input : InputTold)
    (output : OutputTold) : Type 0 where
  pub reads_input : ReadsInput request.job.mode
  pub stretches : List Stretch
  pub comes : OfBytes input (λ bytes. (outcome_for request bytes ≡ outcome)
      × ((whole_recording request bytes).stretches ≡ stretches))
  pub stands : StandsSoFar request output stretches

-- The job's input couldn't be read. What was read before has no fault, and is within the limit.
pub record EndsReadFault (request : Request) (input : InputTold) (output : OutputTold) : Type 0
  where
    pub reads_input : ReadsInput request.job.mode
    pub unread : IsUnreadable request.job.input input
    pub bytes : List ℕ
    pub read : WereRead input bytes
    pub within : length bytes ≤ request.job.max_bytes
    pub faultless : (request.recording false bytes).fault ≡ None
    pub stands : StandsSoFar request output (request.recording false bytes).stretches

-- Where memory was wanting there stand the blocks of some first stretches, which may be all.
abbrev pub StandsAtMemory : Request → InputTold → OutputTold → Type 0
StandsAtMemory request input output = (told more : List Stretch) × StandsSoFar request output told
    × (IsTrue (as_it_comes request.job.mode) → IsPrompt request input told more)

-- ---- what the telling promises

-- The input was read to its end, and the text tells all of it, behind this front.
abbrev pub TellsWhole : Request → InputTold → List ℕ → List ℕ → Type 0
TellsWhole request input front text =
    IsAtEnd input.now.left × OfBytes input (λ bytes. IsOnlineAnswer request bytes front text)

-- The whole input was told, with what its end completes.
pub record IsTold (request : Request) (input : InputTold) (output : OutputTold) : Type 0 where
  pub reads : AllReadsGood input
  pub front : List ℕ
  pub text : List ℕ
  pub right : TellsWhole request input front text
  pub written : WroteText output text

-- A write failed, within the block of a stretch or behind all blocks.
pub record IsToldInPart (request : Request) (input : InputTold) (output : OutputTold) : Type 0 where
  pub reads : AllReadsGood input
  pub front : List ℕ
  pub text : List ℕ
  pub right : TellsWhole request input front text ⊎ IsNextBlock request input front text
  pub cut : WroteFront output front text

-- How the telling of what is asked ends: with its end, or with each of the faults.
abbrev pub EndsTelling : {T : Type 0} → Request → InputTold → OutputTold → Result T Fault → Type 0
EndsTelling request input output (Ok value) = IsTold request input output
EndsTelling request input output (Err (Trace fault)) =
    IsInputKind fault.kind × EndsAtInput (refuses fault) request input output
EndsTelling request input output (Err TooLong) = EndsAtInput exceeds request input output
EndsTelling request input output (Err Read) = EndsReadFault request input output
EndsTelling request input output (Err Write) = IsToldInPart request input output
EndsTelling request input output (Err Memory) =
    AllReadsGood input × StandsAtMemory request input output
EndsTelling request input output (Err fault) = ⊥
