-- Formats whose bytes are parts between separators, and what bytes in such a format say.
use Rattle.std.specs.Prelude.{◌≡◌, ℕ, ◌+◌, ◌≤◌, nat_le, Bool, true, false, List, [], ◌∷◌, ◌++◌, length, map, Option, None, Some, Result, Ok, Err, if◌then◌else◌}
use Rattle.std.specs.List.{slice_split}
use Rattle.tre_pairs.specs.declared.TheConstants.{TIME_MAX}
use Rattle.tre_parts.specs.declared.TheConstants.{PART_MAX}
use Rattle.tre_parts.specs.declared.spot.Spot.{Spot}
use Rattle.tre_trace.specs.Reading.{Recording, Stretch, Vocabulary, segment_for}
use Rattle.tre_trace.specs.Trace.{end_of, AreLong}
use Rattle.tre_trace.specs.declared.segment.Segment.{Segment}
use Rattle.tre_trace.specs.declared.fault.TraceKind.{TraceKind}
use Rattle.tre_trace.specs.declared.fault.TraceKind.TheVariants.{LineTooLong}

-- A part without a fault says some stretches, and what later parts need to know of it.
pub record Step (State : Type 0) : Type 0 where
  pub stretches : List Stretch
  pub state : State

-- A format: the bytes that part, what is known before the first part, how a fault's place is told,
-- what a part says, the fault of an input that ends here, if it has one, the names that happen at
-- its end, and the time that was reached.
pub record Format (State : Type 0) : Type 0 where
  pub separates : ℕ → Bool
  pub start : State
  pub place : Spot → ℕ
  pub says : State → List ℕ → Result (Step State) TraceKind
  pub at_end : State → Option TraceKind
  pub last : State → List ℕ → Bool
  pub time : State → ℕ

abbrev pub nothing : Recording
nothing = record { stretches = []; last = λ name. false; fault = None }

abbrev pub faulty : ℕ → TraceKind → Recording
faulty place kind = record nothing { fault = Some (record { place = place; kind = kind }) }

-- these stretches, and then what was read behind them
abbrev pub behind : List Stretch → Recording → Recording
behind stretches reading = record reading { stretches = stretches ++ reading.stretches }

abbrev pub read_on : {State : Type 0} → ℕ → Result (Step State) TraceKind → (State → Recording)
    → Recording
read_on place (Err kind) more = faulty place kind
read_on place (Ok step) more = behind step.stretches (more step.state)

-- where the next part begins, behind a part of this length and its separator
abbrev pub after_part : Spot → ℕ → Spot
after_part spot len = record { number = spot.number + 1; offset = spot.offset + len + 1 }

-- what a part says; one of too many bytes is a fault whatever stands in it
abbrev pub part_says : {State : Type 0} → Format State → State → List ℕ → Result (Step State)
    TraceKind
part_says format state part = if nat_le (length part) PART_MAX then format.says state part else Err
    LineTooLong

abbrev pub ending : ℕ → (List ℕ → Bool) → Option TraceKind → Recording
ending offset last None = record nothing { last = last }
ending offset last (Some kind) = faulty offset kind

-- The part that no separator ends: the end of the input ends it. While more may come it says
-- nothing, but that it has too many bytes.
abbrev pub last_part : {State : Type 0} → Format State → Bool → State → Spot → List ℕ → Recording
last_part format true state spot part =
    read_on (format.place spot) (part_says format state part)
    (λ now. ending (spot.offset + length part) (format.last now) (format.at_end now))
last_part format false state spot part = if nat_le (length part) PART_MAX then nothing else faulty
    (format.place spot) LineTooLong

abbrev pub parts_recording : {State : Type 0} → Format State → Bool → State → Spot → List (List ℕ)
    → Recording
parts_recording format closed state spot [] = nothing
parts_recording format closed state spot (part ∷ []) = last_part format closed state spot part
parts_recording format closed state spot (part ∷ next ∷ parts) =
    read_on (format.place spot) (part_says format state part) (λ now. parts_recording format closed
    now (after_part spot (length part)) (next ∷ parts))

unfoldable pub recording_from : {State : Type 0} → Format State → Bool → State → Spot → List ℕ
    → Recording
recording_from format closed state spot bytes = parts_recording format closed state spot
    (slice_split format.separates bytes)

abbrev pub first_spot : Spot
first_spot = record { number = 1; offset = 0 }

-- What the bytes say: parts are numbered from 1, and offsets are counted from 0.
abbrev pub recording_of : {State : Type 0} → Format State → Bool → List ℕ → Recording
recording_of format closed bytes = recording_from format closed format.start first_spot bytes

-- Segments lead from one time to another, and a time within the limit is one that they may reach.
pub record LeadsInTime (before : ℕ) (segments : List Segment) (now : ℕ) : Type 0 where
  pub long : AreLong segments
  pub ends : end_of before segments ≡ now
  pub in_time : before ≤ TIME_MAX → now ≤ TIME_MAX

-- Time begins at 0, and the stretches that a part says lead from the time before it to the one
-- after it, whoever asks.
pub record KeepsTime {State : Type 0} (format : Format State) : Type 0 where
  pub begins : format.time format.start ≡ 0
  pub leads : (asked : Vocabulary) (state : State) (part : List ℕ) (step : Step State)
      → format.says state part ≡ Ok step
      → LeadsInTime (format.time state) (map (segment_for asked) step.stretches) (format.time
      step.state)
