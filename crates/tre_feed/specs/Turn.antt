-- How a turn of reading an input ends. `recording` is what its bytes say, at most `limit` of which
-- count. Stretches wait that nobody has taken, before the turn as `waits` says, and then as
-- `then_waits`.
use Rattle.std.specs.Prelude.{◌≡◌, ℕ, ◌+◌, ◌≤◌, Bool, true, false, List, ◌++◌, length, take, None, IfSome, Result, Ok, Err}
use Rattle.std.specs.Io.KnownBytes.{Consumes, IsAtEnd}
use Rattle.tre_trace.specs.Reading.{Recording, Stretch}
use Rattle.tre_feed.specs.Comes.{InputComesTo, exceeds, refuses}
use Rattle.tre_feed.specs.Input.{InputTold}
use Rattle.tre_feed.specs.Outcome.{IsInputKind}
use Rattle.tre_feed.specs.declared.TheConstants.{PIECE}
use Rattle.tre_feed.specs.declared.fault.Fault.{Fault}
use Rattle.tre_feed.specs.declared.fault.Fault.TheVariants.{Trace, TooLong, Read, Memory}

-- These bytes were read. When the last read began it was this front of them, and it gave the rest.
pub record IsLastRead (input : InputTold) (bytes : List ℕ) : Type 0 where
  pub earlier : List ℕ
  pub piece : List ℕ
  pub split : bytes ≡ earlier ++ piece
  pub short : length piece ≤ PIECE
  pub behind : IfSome input.before.file (λ all. IfSome input.now.found (λ rest.
      all ≡ earlier ++ rest))

-- So many bytes of an input were read, these; they were fed as far as the limit, and no fault was
-- found in them.
pub record TurnIsFed (were_fed : List ℕ → Type 0) (limit : ℕ) (input : InputTold) (count : ℕ)
    (bytes : List ℕ) : Type 0 where
  pub front : Consumes input.before.file input.now.left bytes
  pub last : IsLastRead input bytes
  pub size : length bytes ≡ count
  pub few : count ≤ limit + 1
  pub fed : were_fed (take limit bytes)

-- Behind the stretches that waited just those wait that one recording has beyond another.
pub record TakesOn (waits then_waits : List Stretch → Type 0) (before now : Recording) : Type 0
  where
    pub added : List Stretch
    pub beyond : now.stretches ≡ before.stretches ++ added
    pub then : (waiting : List Stretch) → waits waiting → then_waits (waiting ++ added)

-- The stretches that waited wait.
pub record KeepsWaiting (waits then_waits : List Stretch → Type 0) : Type 0 where
  pub same : (waiting : List Stretch) → waits waiting → then_waits waiting

-- The stretches that a turn has put behind the others: those that what it read completes. Where
-- memory was wanting there are none.
abbrev pub TakesRead : (List Stretch → Type 0) → (List Stretch → Type 0) → Recording → Recording →
    Result Bool Fault → Type 0
TakesRead waits then_waits before now (Err Memory) = KeepsWaiting waits then_waits
TakesRead waits then_waits before now result = TakesOn waits then_waits before now

-- What a turn found behind these bytes, of all that were read then, closed or not yet. Where it
-- says that the input may go on, they were fed; where it says that it may not, they are a whole
-- trace, with these last events. A read that fails gives nothing.
abbrev pub TurnFinds : (List ℕ → Type 0) → ((List ℕ → Bool) → Type 0) →
    (Bool → List ℕ → Recording) → ℕ → InputTold → ℕ → List ℕ → List ℕ → Bool →
    Result Bool Fault → Type 0
TurnFinds were_fed has_ended recording limit input count bytes all closed (Ok true) =
    (closed ≡ false) × (length all ≡ count) × were_fed (take limit all)
TurnFinds were_fed has_ended recording limit input count bytes all closed (Ok false) =
    (closed ≡ true) × ((recording true all).fault ≡ None) × has_ended (recording true all).last
TurnFinds were_fed has_ended recording limit input count bytes all closed (Err (Trace fault)) =
    IsInputKind fault.kind × InputComesTo recording limit input (refuses fault)
    (recording closed (take limit all)).stretches
TurnFinds were_fed has_ended recording limit input count bytes all closed (Err TooLong) =
    InputComesTo recording limit input exceeds (recording closed (take limit all)).stretches
TurnFinds were_fed has_ended recording limit input count bytes all closed (Err Read) =
    (closed ≡ false) × (all ≡ bytes) × (length bytes ≤ limit)
    × ((recording false bytes).fault ≡ None)
TurnFinds were_fed has_ended recording limit input count bytes all closed (Err Memory) = Unit {0}
TurnFinds were_fed has_ended recording limit input count bytes all closed (Err fault) = ⊥

-- However a turn ended that read on behind these bytes: what it read, the stretches that this
-- completes, and what it found.
pub record EndsTurn (were_fed : List ℕ → Type 0) (has_ended : (List ℕ → Bool) → Type 0)
    (recording : Bool → List ℕ → Recording) (limit : ℕ) (input : InputTold) (count : ℕ)
    (bytes : List ℕ) (waits then_waits : List Stretch → Type 0) (result : Result Bool Fault)
    : Type 0 where
  pub piece : List ℕ
  pub front : Consumes input.before.file input.now.left (bytes ++ piece)
  pub last : IsLastRead input (bytes ++ piece)
  pub early : length last.earlier ≤ length bytes
  pub few : length (bytes ++ piece) ≤ limit + 1
  pub closed : Bool
  pub ended : closed ≡ true → IsAtEnd input.now.left × (length (bytes ++ piece) ≤ limit)
  pub adds : TakesRead waits then_waits (recording false (take limit bytes))
      (recording closed (take limit (bytes ++ piece))) result
  pub finds : TurnFinds were_fed has_ended recording limit input count bytes (bytes ++ piece)
      closed result
