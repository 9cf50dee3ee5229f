-- How the answering of a request ends, what each end means, and what was written.
use Rattle.std.specs.Prelude.{◌≡◌, ◌⊎◌, ℕ, Bool, true, false, List, All, IsTrue, ◌++◌, codes, flat_map, Result, Ok, Err}
use Rattle.std.specs.Io.KnownBytes.{IsAtEnd}
use Rattle.tre_feed.specs.Input.{InputTold, AllReadsGood}
use Rattle.tre_feed.specs.Comes.{refuses, exceeds}
use Rattle.tre_feed.specs.Outcome.{IsInputKind}
use Rattle.tre_feed.specs.declared.fault.Fault.{Fault}
use Rattle.tre_feed.specs.declared.fault.Fault.TheVariants.{Trace, TooLong, TooManyZones, Read, Write, Memory}
use Rattle.tre_generate.specs.Summary.{IsSummary}
use Rattle.tre_show.specs.PatternText.{expression_text}
use Rattle.tre_tell.specs.Ends.{as_it_comes, EndsAtInput, EndsReadFault, StandsAtMemory}
use Rattle.tre_tell.specs.Online.{IsNextBlock, IsOnlineAnswer}
use Rattle.tre_tell.specs.Outputs.{OutputTold, NothingWritten}
use Rattle.tre_tell.specs.Request.{Request}
use Rattle.tre_tell.specs.Streams.{OfBytes, WroteText, WroteFront}
use Rattle.tre_words.specs.Job.{is_whole}
use Rattle.tre_words.specs.declared.job.Mode.{Mode}
use Rattle.tre_words.specs.declared.job.Mode.TheVariants.{Offline, Show, Generate, Check}
use Rattle.tre_answer.specs.Findings.{IsCheckedAnswer, ChecksHaveTooMany}
use Rattle.tre_answer.specs.Wanted.{IsOfflineAnswer, AreTooMany}

-- whether what is asked for is what becomes of checks
abbrev pub has_checks : Mode → Bool
has_checks (Check file) = true
has_checks mode = false

-- This is all that is written for a request in this mode, once all that is read was. What is
-- written as the input comes has a front, its blocks. Where it has checks, so many of them failed.
abbrev pub IsAnswerIn : Mode → ℕ → Request → InputTold → List ℕ → List ℕ → Type 0
IsAnswerIn Offline failed request input front text =
    IsAtEnd input.now.left × OfBytes input (λ bytes. IsOfflineAnswer request bytes text)
IsAnswerIn Show failed request input front text = text ≡ flat_map
    (λ pattern. expression_text request.job.scale pattern.names pattern.tree ++ codes "\n")
    request.patterns
IsAnswerIn (Generate count) failed request input front text =
    All (λ pattern. IsSummary pattern.tree count text) request.patterns
IsAnswerIn (Check file) failed request input front text =
    IsAtEnd input.now.left × OfBytes input (λ bytes. IsCheckedAnswer request bytes failed text)
IsAnswerIn mode failed request input front text =
    IsAtEnd input.now.left × OfBytes input (λ bytes. IsOnlineAnswer request bytes front text)

-- The input was read to its end, and the right answer was written, by which so many checks failed:
-- none, where there are no checks.
pub record EndsDone (failed : ℕ) (request : Request) (input : InputTold) (output : OutputTold)
    : Type 0 where
  pub reads : AllReadsGood input
  pub front : List ℕ
  pub text : List ℕ
  pub right : IsAnswerIn request.job.mode failed request input front text
  pub unchecked : (has_checks request.job.mode ≡ true) ⊎ (failed ≡ 0)
  pub written : WroteText output text

-- What is printed of a whole input in this mode has so many zones, and more than there may be.
abbrev pub AreTooManyIn : Mode → Request → List ℕ → ℕ → Type 0
AreTooManyIn (Check file) request bytes count = ChecksHaveTooMany request bytes count
AreTooManyIn mode request bytes count = AreTooMany request bytes count

-- The input was read to its end, its zones are so many, and more than there may be.
pub record EndsTooMany (zones : ℕ) (request : Request) (input : InputTold) (output : OutputTold)
    : Type 0 where
  pub whole : is_whole request.job.mode ≡ true
  pub ended : IsAtEnd input.now.left
  pub cause : OfBytes input (λ bytes. AreTooManyIn request.job.mode request bytes zones)
  pub nothing : NothingWritten output

-- A write failed: within the whole text, the block of a stretch, or the end behind all blocks.
pub record EndsWriteFault (request : Request) (input : InputTold) (output : OutputTold) : Type 0
  where
    pub reads : AllReadsGood input
    pub failed : ℕ
    pub front : List ℕ
    pub text : List ℕ
    pub right : IsAnswerIn request.job.mode failed request input front text
        ⊎ (IsTrue (as_it_comes request.job.mode) × IsNextBlock request input front text)
    pub cut : WroteFront output front text

-- The end of the answering of a request, with how many of its checks failed.
abbrev pub EndsOver : Request → InputTold → OutputTold → Result ℕ Fault → Type 0
EndsOver request input output (Ok failed) = EndsDone failed request input output
EndsOver request input output (Err (Trace fault)) =
    IsInputKind fault.kind × EndsAtInput (refuses fault) request input output
EndsOver request input output (Err TooLong) = EndsAtInput exceeds request input output
EndsOver request input output (Err (TooManyZones zones)) =
    EndsTooMany zones request input output
EndsOver request input output (Err Read) = EndsReadFault request input output
EndsOver request input output (Err Write) = EndsWriteFault request input output
EndsOver request input output (Err Memory) =
    AllReadsGood input × StandsAtMemory request input output
