-- Where a reader is in its input, and what a call does that takes bytes of it.
use Rattle.std.specs.Prelude.{◌≡◌, ◌≢◌, ℕ, ◌+◌, ◌<◌, ◌≤◌, Bool, true, false, List, [], ◌∷◌, ◌++◌, length, take, slice_index, None, Result, Ok, Err}
use Rattle.std.specs.List.{All}
use Rattle.tre_parts.specs.Format.{Format, Step, behind, recording_from, recording_of}
use Rattle.tre_parts.specs.declared.TheConstants.{PART_MAX}
use Rattle.tre_parts.specs.declared.said.Said.{Said}
use Rattle.tre_parts.specs.declared.said.Said.TheVariants.{Nothing, Says, Wrong}
use Rattle.tre_parts.specs.declared.spot.Spot.{Spot}
use Rattle.tre_trace.specs.declared.segment.Segment.{Segment}
use Rattle.tre_trace.specs.Reading.{Recording, Stretch, Vocabulary, Adds, IsRefused, segments_for, events_for, segment_for}
use Rattle.tre_trace.specs.declared.fault.TraceFault.{TraceFault}
use Rattle.tre_trace.specs.declared.fault.TraceKind.{TraceKind}
use Rattle.tre_trace.specs.declared.fault.TraceKind.TheVariants.{Memory, Spent}

-- no separator stands in the bytes
abbrev pub HasNoSeparator : (ℕ → Bool) → List ℕ → Type 0
HasNoSeparator separates bytes = All (λ byte. separates byte ≡ false) bytes

-- the first separator among the bytes is at this place
pub record SeparatedAt (separates : ℕ → Bool) (bytes : List ℕ) (place : ℕ) : Type 0 where
  pub within : place < length bytes
  pub inside : HasNoSeparator separates (take place bytes)
  pub ends : separates (slice_index bytes place) ≡ true

-- a part said these stretches, and the state behind it is held
pub record PartGoesOn {State : Type 0} (said : Result (Step State) TraceKind) (stretches : List
    Stretch)
    (holds : State → Type 0) : Type 0 where
  pub state : State
  pub says : said ≡ Ok (record { stretches = stretches; state = state })
  pub is_held : holds state

-- a part has this fault, or no memory was found
pub record IsWrong {State : Type 0} (said : Result (Step State) TraceKind) (kind : TraceKind) : Type
    0 where
  pub says : kind ≢ Memory → said ≡ Err kind
  pub never_spent : kind ≢ Spent

-- a part said this stretch, which is this segment for the names
pub record SaysOne {State : Type 0} (asked : Vocabulary) (said : Result (Step State) TraceKind)
    (segment : Segment) (holds : State → Type 0) : Type 0 where
  pub stretch : Stretch
  pub is : segment ≡ segment_for asked stretch
  pub goes_on : PartGoesOn said (stretch ∷ []) holds

-- what a reader told of a part is what the part says, for the names that it reads, and the reader
-- holds the state behind it
abbrev pub TellsPart : {State : Type 0} → Vocabulary → Result (Step State) TraceKind → (State →
    Type 0)
    → Said → Type 0
TellsPart asked said holds Nothing = PartGoesOn said [] holds
TellsPart asked said holds (Says segment) = SaysOne asked said segment holds
TellsPart asked said holds (Wrong kind) = IsWrong said kind

-- The reader has read these bytes and found no fault: it holds a state, it kept the part that
-- isn't ended yet, and what follows is read from there.
pub record IsAt {Reader Terms State : Type 0} (terms_of : Reader → Terms)
    (format : Terms → Format State) (holds : Reader → State → Type 0)
    (terms : Terms) (reader : Reader) (part : List ℕ) (spot : Spot) (bytes : List ℕ) : Type
    0 where
  pub named : terms_of reader ≡ terms
  pub state : State
  pub is_held : holds reader state
  pub told : List Stretch
  pub follows : (closed : Bool) (more : List ℕ) →
      recording_of (format terms) closed (bytes ++ more) ≡ behind told
      (recording_from (format terms)
      closed state spot (part ++ more))
  pub inside : HasNoSeparator (format terms).separates part
  pub short : length part ≤ PART_MAX
  pub counts : spot.offset + length part ≡ length bytes
  pub few : spot.number ≤ spot.offset + 1

-- A part was read, and the segments of its stretches were put behind the others.
pub record AddsPart {State : Type 0} (asked : Vocabulary)
    (said : Result (Step State) TraceKind) (holds : State → Type 0)
    (old new : List Segment) : Type 0 where
  pub stretches : List Stretch
  pub goes_on : PartGoesOn said stretches holds
  pub added : new ≡ old ++ segments_for asked stretches

-- A part was refused, and no segment added.
pub record IsRefusedPart {State : Type 0} (said : Result (Step State) TraceKind) (place : ℕ)
    (old new : List Segment) (fault : TraceFault) : Type 0 where
  pub wrong : IsWrong said fault.kind
  pub at_place : fault.kind ≢ Memory → fault.place ≡ place
  pub same : new ≡ old

-- The bytes have no fault as a whole input, and the events at their end are told.
pub record IsEnded (asked : Vocabulary) (recording : Recording) (last : ℕ) : Type 0 where
  pub faultless : recording.fault ≡ None
  pub last_is : last ≡ events_for asked recording.last

-- A call that read more bytes: what holds of an Ok's value says how far the reader is, and what was
-- put behind the old segments is what the bytes say; a fault is the first one that they say.
abbrev pub TakesBytes : {T : Type 0} → Vocabulary → (T → Type 0) → List Segment → List Segment
    → Recording → Recording → Result T TraceFault → Type 0
TakesBytes asked IsBehind old new before now (Ok told) = IsBehind told × Adds asked old new before
    now
TakesBytes asked IsBehind old new before now (Err fault) = IsRefused asked old new before now fault
