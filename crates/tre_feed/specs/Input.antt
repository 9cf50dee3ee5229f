-- What was read of an input.
use Rattle.std.specs.Prelude.{◌≡◌, ℕ, ◌+◌, ◌<◌, ◌≤◌, false, List, [], length, take, Option, IfSome, IsTrue, IsErrOf, Result, Ok, Err}
use Rattle.std.specs.Io.KnownBytes.{Consumes, IsAtEnd}
use Rattle.tre_io.specs.Faults.{count_after}
use Rattle.tre_io.specs.Told.{SourceTold}
use Rattle.tre_feed.specs.declared.TheConstants.{PIECE}
use Rattle.tre_feed.specs.declared.fault.Fault.{Fault}
use Rattle.tre_feed.specs.declared.fault.Fault.TheVariants.{Read}

-- What a source tells before it is opened, and at the end.
pub record InputTold : Type 0 where
  pub before : SourceTold
  pub now : SourceTold

abbrev pub input_told : SourceTold → SourceTold → InputTold
input_told before now = record { before = before; now = now }

abbrev pub AllReadsGood : InputTold → Type 0
AllReadsGood input = input.now.faults ≡ input.before.faults

-- These bytes were read, and the others are left. Of an input that isn't open none was read.
pub record WereRead (input : InputTold) (bytes : List ℕ) : Type 0 where
  pub of_open : IsTrue input.now.opened → Consumes input.before.file input.now.left bytes
  pub of_closed : input.now.opened ≡ false → bytes ≡ []

-- The input was read to its end, and these are all its bytes.
pub record AreAllBytes (input : InputTold) (bytes : List ℕ) : Type 0 where
  pub opened : IsTrue input.now.opened
  pub read : WereRead input bytes
  pub all_read : IsAtEnd input.now.left
  pub whole : IfSome input.before.file (λ told. told ≡ bytes)

-- Of the file's bytes at most this many were taken, from its front.
pub record TakesAtMost (most : ℕ) (file left : Option (List ℕ)) : Type 0 where
  pub taken : List ℕ
  pub few : length taken ≤ most
  pub front : Consumes file left taken

-- A failed read is one that was counted, and nothing else raises the count.
abbrev pub HasReadCause : {T : Type 0} → ℕ → ℕ → Result T Fault → Type 0
HasReadCause before now (Ok value) = now ≡ before
HasReadCause before now (Err Read) = now ≡ count_after before
HasReadCause before now (Err _) = now ≡ before

-- A source that may have been read is as open and as sound as it was. A failed read was counted,
-- and of a sound source none fails.
pub record KeepsSource {T : Type 0} (before now : SourceTold) (result : Result T Fault)
    : Type 0 where
  pub cause : HasReadCause before.faults now.faults result
  pub no_failure : IsTrue before.sound → IsErrOf result Read → ⊥
  pub same_opened : now.opened ≡ before.opened
  pub same_sound : now.sound ≡ before.sound

-- What a read took into the front of a buffer: so many bytes, and none only at the end.
pub record IsPiece (before now : Option (List ℕ)) (buffer : List ℕ) (count : ℕ) : Type 0 where
  pub taken : Consumes before now (take count buffer)
  pub within : count ≤ length buffer
  pub end : count ≡ 0 → IsAtEnd now

-- A buffer that one read may fill: it has room, and for a piece at the most.
pub record HasPieceRoom (buffer : List ℕ) : Type 0 where
  pub some : 0 < length buffer
  pub short : length buffer ≤ PIECE

-- More of an input was taken, and at most a byte past its limit.
pub record HasTakenMore (limit before now : ℕ) : Type 0 where
  pub more : before < now
  pub few : now ≤ limit + 1
