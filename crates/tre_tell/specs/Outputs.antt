-- What is written to an output.
use Rattle.std.specs.Prelude.{◌≡◌, ℕ, ◌≤◌, List, length, Option}
use Rattle.tre_io.specs.Told.{SinkTold}
use Rattle.tre_io.specs.Written.{AppendsPart}

-- What a sink tells before something is written, and then.
pub record OutputTold : Type 0 where
  pub before : SinkTold
  pub now : SinkTold

abbrev pub output_told : SinkTold → SinkTold → OutputTold
output_told before now = record { before = before; now = now }

abbrev pub AllWritesGood : OutputTold → Type 0
AllWritesGood output = output.now.faults ≡ output.before.faults

pub record NothingWritten (output : OutputTold) : Type 0 where
  pub unwritten : output.now.written ≡ output.before.written
  pub writes : AllWritesGood output

-- A first part of the text was written, with all of its front in it.
pub record IsCutBehind (front text : List ℕ) (before now : Option (List ℕ)) : Type 0 where
  pub part : AppendsPart before now text
  pub behind : length front ≤ part.count
