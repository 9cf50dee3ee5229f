-- How a whole input is read as traces.
use Rattle.std.specs.Prelude.{◌≡◌, ℕ, ◌≤◌, Bool, true, List, length, map, All, None, Some, IsTrue}
use Rattle.tre_trace.specs.Reading.{Recording, Stretch, Vocabulary, events_for, segments_for}
use Rattle.tre_trace.specs.Trace.{Timeline, timeline_of, IsTrace}
use Rattle.tre_feed.specs.Comes.{InputComesTo, MayGoOn, Outcome, exceeds, refuses}
use Rattle.tre_feed.specs.Front.{IsUnreadable}
use Rattle.tre_feed.specs.Input.{InputTold, AllReadsGood, AreAllBytes}
use Rattle.tre_feed.specs.Outcome.{IsInputKind}
use Rattle.tre_feed.specs.declared.fault.Fault.{Fault}
use Rattle.tre_feed.specs.declared.fault.Fault.TheVariants.{Trace, TooLong, Read, Memory}

abbrev pub trace_for : Recording → Vocabulary → Timeline
trace_for said asked =
    timeline_of (segments_for asked said.stretches) (events_for asked said.last)

-- The whole input was read, it is within the limit, and it is these traces: one for each of the
-- lists of names.
pub record IsWhole (asked : List Vocabulary) (recording : Bool → List ℕ → Recording) (limit : ℕ)
    (input : InputTold) (traces : List Timeline) : Type 0 where
  pub reads : AllReadsGood input
  pub bytes : List ℕ
  pub all : AreAllBytes input bytes
  pub within : length bytes ≤ limit
  pub faultless : (recording true bytes).fault ≡ None
  pub reads_as : traces ≡ map (trace_for (recording true bytes)) asked
  pub are_traces : All (λ trace. IsTrace trace.segments) traces

-- The input comes to this, whatever of it is still to be read.
pub record IsDecided (recording : Bool → List ℕ → Recording) (limit : ℕ) (input : InputTold)
    (outcome : Outcome) : Type 0 where
  pub opened : IsTrue input.now.opened
  pub stretches : List Stretch
  pub cause : InputComesTo recording limit input outcome stretches
  pub reads : AllReadsGood input

-- Why an input of this name was read as no traces within the limit. A read fails only where the
-- input might have gone on.
abbrev pub StopsReading : (Bool → List ℕ → Recording) → ℕ → List ℕ → InputTold → Fault →
    Type 0
StopsReading recording limit name input (Trace fault) =
    IsInputKind fault.kind × IsDecided recording limit input (refuses fault)
StopsReading recording limit name input TooLong = IsDecided recording limit input exceeds
StopsReading recording limit name input Read =
    IsUnreadable name input × MayGoOn recording limit input
StopsReading recording limit name input Memory = AllReadsGood input
StopsReading recording limit name input fault = ⊥
