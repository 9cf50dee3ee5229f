-- Whole parts that are read at once.
use Rattle.std.specs.Prelude.{◌≡◌, ℕ, ◌+◌, ◌≤◌, Bool, true, false, List, ◌++◌, length, take, Result}
use Rattle.tre_parts.specs.Format.{Format, Step, behind, recording_from, recording_of}
use Rattle.tre_parts.specs.Walk.{IsAt, AddsPart}
use Rattle.tre_parts.specs.declared.skimmed.Skimmed.{Skimmed}
use Rattle.tre_parts.specs.declared.spot.Spot.{Spot}
use Rattle.tre_trace.specs.Reading.{Stretch, Vocabulary, Adds, segments_for}
use Rattle.tre_trace.specs.declared.reader.TheConstants.{FED_MAX}
use Rattle.tre_trace.specs.declared.segment.Segment.{Segment}
use Rattle.tre_trace.specs.declared.fault.TraceKind.{TraceKind}

-- where the next part begins, behind so many bytes and parts
abbrev pub spot_behind : Spot → Skimmed → Spot
spot_behind spot read = record {
  number = spot.number + read.parts;
  offset = spot.offset + read.bytes;
}

-- Behind this state the first bytes say what was put behind the old segments, and lead to a state
-- that is held, from which the other bytes are read, whatever they are.
pub record Skims {State : Type 0} (asked : Vocabulary) (format : Format State)
    (holds : State → Type 0) (state : State) (bytes : List ℕ) (old new : List Segment)
    (read : Skimmed) : Type 0 where
  pub few : read.parts ≤ read.bytes
  pub now : State
  pub is_held : holds now
  pub told : List Stretch
  pub added : new ≡ old ++ segments_for asked told
  pub follows : (closed : Bool) (spot : Spot) (more : List ℕ) →
      recording_from format closed state spot (take read.bytes bytes ++ more)
      ≡ behind told (recording_from format closed now (spot_behind spot read) more)

-- The front of the piece was read, and this is its rest.
pub record IsFed {Reader Terms State : Type 0} (gv : Reader → Vocabulary) (tm : Reader → Terms)
    (fm : Terms → Format State)
    (hd : Reader → State → Type 0)
    (reader : Reader) (part : List ℕ) (spot : Spot) (old : List Segment) (piece : List ℕ)
    (reader_now : Reader) (part_now : List ℕ) (spot_now : Spot) (new : List Segment) (rest : List ℕ)
    : Type 0 where
  pub taken : List ℕ
  pub cut : piece ≡ taken ++ rest
  pub same_terms : tm reader_now ≡ tm reader
  pub same_names : gv reader_now ≡ gv reader
  pub behind : (terms : Terms) (bytes : List ℕ) → IsAt tm fm hd terms reader part spot bytes
      → length bytes + length piece ≤ FED_MAX
      → IsAt tm fm hd terms reader_now part_now spot_now (bytes ++ taken)
  pub adds : (terms : Terms) (bytes : List ℕ) → IsAt tm fm hd terms reader part spot bytes
      → length bytes + length piece ≤ FED_MAX
      → Adds (gv reader) old new (recording_of (fm terms) false bytes)
      (recording_of (fm terms) false (bytes ++ taken))

-- The part was taken: it put its segments behind the others. Or it was not: the state is held that
-- was held before it, and no segment was added.
abbrev pub TakesPart : {State : Type 0} → Vocabulary → Result (Step State) TraceKind
    → (State → Type 0) → State → List Segment → List Segment → Bool → Type 0
TakesPart asked said holds state old new true = AddsPart asked said holds old new
TakesPart asked said holds state old new false = holds state × (new ≡ old)
