-- What the bytes of a trace say in some format, and how a call of a reader adds to it.
use Rattle.std.specs.Prelude.{◌≡◌, ◌≢◌, ℕ, ◌+◌, ◌*◌, Bool, List, [], ◌∷◌, ◌++◌, map, Option, Some, if◌then◌else◌}
use Rattle.tre_trace.specs.declared.segment.Segment.{Segment}
use Rattle.tre_trace.specs.declared.fault.TraceFault.{TraceFault}
use Rattle.tre_trace.specs.declared.fault.TraceKind.TheVariants.{Spent, Memory}
use Rattle.tre_trace.specs.Segments.{segment_with}

-- A stretch of time on which nothing changes: how long it is, which names are true on it, and which
-- happen at its begin.
pub record Stretch : Type 0 where
  pub len : ℕ
  pub is_true : List ℕ → Bool
  pub happens : List ℕ → Bool

-- What bytes say, whoever asks: the stretches before the first fault, which names happen at the end
-- of a whole trace, and the first fault, if there is one. Where the input has a fault or may go on,
-- none happens at the end.
pub record Recording : Type 0 where
  pub stretches : List Stretch
  pub last : List ℕ → Bool
  pub fault : Option TraceFault

-- The names that a trace is read for, each with its place as its number: those of the propositions,
-- and those of the events.
pub record Vocabulary : Type 0 where
  pub names : List (List ℕ)
  pub events : List (List ℕ)

abbrev pub no_names : Vocabulary
no_names = record { names = []; events = [] }

-- A bit for each of the names, the first of which has bit 0: whether the test holds of it.
abbrev pub bits_of : (List ℕ → Bool) → List (List ℕ) → ℕ
bits_of test [] = 0
bits_of test (name ∷ names) = (if test name then 1 else 0) + 2 * bits_of test names

abbrev pub segment_for : Vocabulary → Stretch → Segment
segment_for asked stretch = segment_with stretch.len (bits_of stretch.is_true asked.names)
    (bits_of stretch.happens asked.events)

-- The events of these names that happen where those do of which the test holds.
abbrev pub events_for : Vocabulary → (List ℕ → Bool) → ℕ
events_for asked happens = bits_of happens asked.events

-- What was read for some names: the segments before the first fault, the events at the end of a
-- whole trace, and the first fault, if there is one.
pub record Reading : Type 0 where
  pub segments : List Segment
  pub last : ℕ
  pub fault : Option TraceFault

-- What a recording is for these names.
abbrev pub reading_for : Vocabulary → Recording → Reading
reading_for asked recording = record {
  segments = map (segment_for asked) recording.stretches;
  last = events_for asked recording.last;
  fault = recording.fault;
}

abbrev pub segments_for : Vocabulary → List Stretch → List Segment
segments_for asked stretches = map (segment_for asked) stretches

-- Nothing is taken back when more bytes come: the stretches stay in front, and a fault ends the
-- recording.
pub record Grows (before now : Recording) : Type 0 where
  pub added : List Stretch
  pub stretches : now.stretches ≡ before.stretches ++ added
  pub fault : (fault : TraceFault) → before.fault ≡ Some fault → now ≡ before

-- Behind the old segments stand just the segments that one recording has beyond another.
pub record Adds (asked : Vocabulary) (old new : List Segment) (before now : Recording)
    : Type 0 where
  pub added : List Stretch
  pub new_is : new ≡ old ++ segments_for asked added
  pub beyond : now.stretches ≡ before.stretches ++ added

-- Behind the old segments stand the first of these segments.
pub record AddsSome (asked : Vocabulary) (old new : List Segment) (before now : Recording)
    : Type 0 where
  pub added : List Stretch
  pub left : List Stretch
  pub new_is : new ≡ old ++ segments_for asked added
  pub beyond : now.stretches ≡ before.stretches ++ (added ++ left)

-- Why a reader refused bytes: it told the first fault behind all segments before it, or it found no
-- memory.
pub record IsRefused (asked : Vocabulary) (old new : List Segment) (before now : Recording)
    (fault : TraceFault) : Type 0 where
  pub adds_some : AddsSome asked old new before now
  pub never_spent : fault.kind ≢ Spent
  pub told : fault.kind ≢ Memory → now.fault ≡ Some fault
  pub adds : fault.kind ≢ Memory → Adds asked old new before now

-- Want of memory is of no place in the bytes, and told with 0.
pub record IsPlaced (fault : TraceFault) : Type 0 where
  pub memory : fault.kind ≡ Memory → fault.place ≡ 0

-- the answer of a reader that was refused or finished before
abbrev pub spent_fault : TraceFault
spent_fault = record { place = 0; kind = Spent }
