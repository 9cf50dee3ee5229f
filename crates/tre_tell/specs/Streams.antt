-- What was read of an input, and what was written to an output.
use Rattle.std.specs.Prelude.{◌≡◌, ℕ, ◌<◌, ◌≤◌, List, length, take, IfSome, IsTrue}
use Rattle.std.specs.Io.KnownBytes.{Appends, Consumes}
use Rattle.tre_feed.specs.Input.{InputTold, AllReadsGood}
use Rattle.tre_io.specs.Faults.{count_after}
use Rattle.tre_tell.specs.Outputs.{OutputTold, AllWritesGood}

-- An input was opened, and no read failed. This is so of what was read, and of all that it tells.
pub record OfBytes (input : InputTold) (IsSo : List ℕ → Type 0) : Type 0 where
  pub opened : IsTrue input.now.opened
  pub reads : AllReadsGood input
  pub bytes : List ℕ
  pub front : Consumes input.before.file input.now.left bytes
  pub is_so : IsSo bytes
  pub whole : IfSome input.before.file IsSo

pub record WroteText (output : OutputTold) (text : List ℕ) : Type 0 where
  pub writes : AllWritesGood output
  pub written : Appends output.before.written output.now.written text

-- A write failed, and a first part of the text was written, with all of its front in it.
pub record WroteFront (output : OutputTold) (front text : List ℕ) : Type 0 where
  pub cause : output.now.faults ≡ count_after output.before.faults
  pub count : ℕ
  pub behind : length front ≤ count
  pub short : count < length text
  pub written : Appends output.before.written output.now.written (take count text)
