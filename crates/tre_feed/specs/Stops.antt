-- What the parts of a turn promise each other of one piece, of which `allowed` bytes may be fed and
-- `room` may come. It is read where `before` was left of the input, and `now` is left behind it.
use Rattle.std.specs.Prelude.{◌≡◌, ℕ, ◌≤◌, Bool, false, List, ◌++◌, length, take, Option, None, Some, Result, Ok, Err}
use Rattle.std.specs.Io.KnownBytes.{Consumes, Keeps as KeepsBytes}
use Rattle.tre_trace.specs.Reading.{Recording, Stretch}
use Rattle.tre_feed.specs.Outcome.{IsInputKind}
use Rattle.tre_feed.specs.Turn.{KeepsWaiting, TakesOn}
use Rattle.tre_feed.specs.declared.fault.Fault.{Fault}
use Rattle.tre_feed.specs.declared.fault.Fault.TheVariants.{Trace, Read, Memory}

-- How a call ended that had all readers read on from one recording to another. The stretches wait
-- that the later one has beyond the earlier, and the fault is its first. Where memory was wanting,
-- those wait that did.
abbrev pub TakesIn : (List Stretch → Type 0) → (List Stretch → Type 0) → Recording → Recording →
    Result (Unit {0}) Fault → Type 0
TakesIn waits then_waits before now (Ok done) =
    TakesOn waits then_waits before now × (now.fault ≡ None)
TakesIn waits then_waits before now (Err (Trace fault)) =
    IsInputKind fault.kind × TakesOn waits then_waits before now × (now.fault ≡ Some fault)
TakesIn waits then_waits before now (Err Memory) = KeepsWaiting waits then_waits
TakesIn waits then_waits before now (Err fault) = ⊥

-- A call told no fault, one of the input, or want of memory.
abbrev pub IsOfReaders : Result (Unit {0}) Fault → Type 0
IsOfReaders (Ok done) = Unit {0}
IsOfReaders (Err (Trace fault)) = Unit {0}
IsOfReaders (Err Memory) = Unit {0}
IsOfReaders (Err fault) = ⊥

-- It tells the first fault of the input, or none.
abbrev pub IsToldOf : Recording → Result (Unit {0}) Fault → Type 0
IsToldOf now (Ok done) = now.fault ≡ None
IsToldOf now (Err (Trace fault)) = IsInputKind fault.kind × (now.fault ≡ Some fault)
IsToldOf now (Err fault) = ⊥

-- The readers refused a piece that was read behind these bytes.
pub record PieceIsRefused (recording : Bool → List ℕ → Recording) (allowed room : ℕ)
    (bytes : List ℕ) (before now : Option (List ℕ)) (waits then_waits : List Stretch → Type 0)
    (fault : Fault) : Type 0 where
  pub piece : List ℕ
  pub front : Consumes before now piece
  pub short : length piece ≤ room
  pub takes : TakesIn waits then_waits (recording false bytes)
      (recording false (bytes ++ take allowed piece)) (Err fault)

-- Why a piece behind these bytes wasn't fed: a read that fails takes no byte.
abbrev pub StopsPiece : (Bool → List ℕ → Recording) → ℕ → ℕ → List ℕ → Option (List ℕ) →
    Option (List ℕ) → (List Stretch → Type 0) → (List Stretch → Type 0) → Fault → Type 0
StopsPiece recording allowed room bytes before now waits then_waits Read =
    KeepsBytes before now × KeepsWaiting waits then_waits
StopsPiece recording allowed room bytes before now waits then_waits fault =
    PieceIsRefused recording allowed room bytes before now waits then_waits fault

-- A piece was fed behind these bytes as far as it may be: the stretches are those that it
-- completes.
pub record IsPieceFed (were_fed : List ℕ → Type 0) (recording : Bool → List ℕ → Recording)
    (bytes piece : List ℕ) (waits then_waits : List Stretch → Type 0) : Type 0 where
  pub fed : were_fed (bytes ++ piece)
  pub all : TakesOn waits then_waits (recording false bytes) (recording false (bytes ++ piece))

-- How it ended to read a piece behind these bytes and to feed it.
abbrev pub EndsPiece : (List ℕ → Type 0) → (Bool → List ℕ → Recording) → ℕ → ℕ → List ℕ →
    List ℕ → Option (List ℕ) → Option (List ℕ) → (List Stretch → Type 0) →
    (List Stretch → Type 0) → Result ℕ Fault → Type 0
EndsPiece were_fed recording allowed room buffer bytes before now waits then_waits (Ok count) =
    IsPieceFed were_fed recording bytes (take allowed (take count buffer)) waits then_waits
EndsPiece were_fed recording allowed room buffer bytes before now waits then_waits (Err fault) =
    StopsPiece recording allowed room bytes before now waits then_waits fault
