-- How an input is read whole, or as far as it may be.
use Rattle.std.specs.Prelude.{◌≡◌, ◌≢◌, ℕ, ◌<◌, ◌≤◌, Bool, List, ◌++◌, length, Option, Some, IsTrue, OnOk, Result}
use Rattle.std.specs.Io.KnownBytes.{Consumes, IsAtEnd}
use Rattle.tre_io.specs.Faults.{count_after}
use Rattle.tre_feed.specs.Input.{InputTold, AllReadsGood}
use Rattle.tre_feed.specs.declared.fault.Fault.{Fault}
use Rattle.tre_feed.specs.declared.fault.Fault.TheVariants.{Read, Memory}

-- These bytes were read from the first on: all of the input, or as many as it may have.
pub record IsFrontRead (most : ℕ) (input : InputTold) (bytes : List ℕ) : Type 0 where
  pub opened : IsTrue input.now.opened
  pub reads : AllReadsGood input
  pub front : Consumes input.before.file input.now.left bytes
  pub few : length bytes ≤ most
  pub all : length bytes < most → IsAtEnd input.now.left

-- The input of this name couldn't be opened or read.
pub record IsUnreadable (name : List ℕ) (input : InputTold) : Type 0 where
  pub cause : input.now.faults ≡ count_after input.before.faults
  pub unsound : IsTrue input.before.sound → input.before.name ≢ Some name

-- Why it wasn't read.
abbrev pub StopsFront : List ℕ → InputTold → Fault → Type 0
StopsFront name input Read = IsUnreadable name input
StopsFront name input Memory = AllReadsGood input
StopsFront name input fault = ⊥

-- A piece was read behind these bytes, of which there may be at most so many, and was put there.
pub record IsReadOn (most : ℕ) (old new : List ℕ) (before now : Option (List ℕ))
    (result : Result Bool Fault) : Type 0 where
  pub piece : List ℕ
  pub front : Consumes before now piece
  pub few : length (old ++ piece) ≤ most
  pub added : OnOk result (new ≡ old ++ piece)
