-- What the parts of an answer promise each other.
use Rattle.std.specs.Prelude.{◌≡◌, ◌⊎◌, ℕ, true, List, [], Bool, ◌∷◌, get_or, Result, Ok, Err, Option, IsSomeAnd, ◌<◌, map}
use Rattle.tre_feed.specs.Input.{InputTold, AllReadsGood, AreAllBytes}
use Rattle.tre_feed.specs.declared.fault.Fault.{Fault}
use Rattle.tre_feed.specs.declared.fault.Fault.TheVariants.{TooManyZones, Memory}
use Rattle.tre_feed.specs.Standing.{Asks, limit_of}
use Rattle.tre_feed.specs.declared.input.Input.{Input}
use Rattle.tre_judge.specs.declared.verdict.Verdict.{Verdict}
use Rattle.tre_syntax.specs.Pattern.{names_of, pattern_tree}
use Rattle.tre_syntax.specs.declared.pattern.Pattern.{Pattern}
use Rattle.tre_tell.specs.Request.{Request, AreReadAs}
use Rattle.tre_tell.specs.Outputs.{OutputTold, NothingWritten}
use Rattle.tre_trace.specs.Reading.{Vocabulary, no_names, segments_for}
use Rattle.tre_trace.specs.Trace.{Timeline, end_of}
use Rattle.tre_watch.specs.declared.form.Form.{Form}
use Rattle.tre_words.specs.declared.job.Job.{Job}
use Rattle.tre_zone.specs.ZoneList.{HoldExactly}
use Rattle.tre_zone.specs.declared.zone_bounds.ZoneBounds.{ZoneBounds}
use Rattle.tre_answer.specs.Ends.{EndsOver, IsAnswerIn, has_checks}
use Rattle.tre_answer.specs.Findings.{IsJudgedSo}
use Rattle.tre_answer.specs.Wanted.{IsWanted}
use Rattle.tre_answer.specs.declared.asked.Asked.{Asked}

-- what is answered where so many checks failed, and the text was written so
abbrev pub done_with : ℕ → Result (Unit {0}) Fault → Result ℕ Fault
done_with failed (Ok value) = Ok failed
done_with failed (Err fault) = Err fault

-- What was done with the input is as at an end with this fault that wrote nothing.
abbrev pub StopsAs : Request → InputTold → Fault → Type 0
StopsAs request input fault = (output : OutputTold) → NothingWritten output →
    EndsOver request input output (Err fault)

-- The text is the answer to the request, which is written at once, and nothing of the input is
-- left; so many of its checks failed.
pub record IsFoundFor (failed : ℕ) (request : Request) (input : InputTold) (text : List ℕ)
    : Type 0 where
  pub reads : AllReadsGood input
  pub right : IsAnswerIn request.job.mode failed request input [] text
  pub unchecked : (has_checks request.job.mode ≡ true) ⊎ (failed ≡ 0)

-- The whole input was read as these traces, and ends so.
pub record IsReadAs (request : Request) (input : InputTold) (traces : List Timeline) (end : ℕ)
    : Type 0 where
  pub reads : AllReadsGood input
  pub bytes : List ℕ
  pub all : AreAllBytes input bytes
  pub are : AreReadAs request bytes traces
  pub ends : end
      ≡ end_of 0 (segments_for no_names (request.recording true bytes).stretches)

-- The zones hold just the pairs that a request asks for over the whole input, which ends so.
pub record IsFound (request : Request) (input : InputTold) (zones : List ZoneBounds) (end : ℕ)
    : Type 0 where
  pub traces : List Timeline
  pub read : IsReadAs request input traces end
  pub exact : HoldExactly zones (IsWanted request.patterns traces)

-- This is the verdict on the check whose patterns these begin with, each over its own trace, and
-- these zones are shown with it.
abbrev pub IsRuling : Bool → Form → List Pattern → List Timeline → Verdict → List ZoneBounds →
    Type 0
IsRuling normal form (pattern ∷ patterns) (trace ∷ traces) verdict zones =
    IsJudgedSo normal form (pattern_tree pattern) trace (pattern_tree (get_or patterns 0 pattern))
    (get_or traces 0 trace) verdict zones
IsRuling normal form patterns traces verdict zones = ⊥

-- So many zones are more than there may be, or no number says how many there are.
abbrev pub IsLimitFault : ℕ → Option ℕ → Fault → Type 0
IsLimitFault zones most (TooManyZones count) =
    (count ≡ zones) × IsSomeAnd most (λ most. most < zones)
IsLimitFault zones most Memory = Unit {0}
IsLimitFault zones most fault = ⊥

-- The input is read for the names of each of the patterns, as far as the limit of the job.
pub record IsInputOf {R : Type 0} (names : R → Vocabulary) (asked : Asked) (job : Job)
    (input : Input R) : Type 0 where
  pub asks : Asks names input (map names_of asked.patterns.items)
  pub limit : limit_of input ≡ job.max_bytes
