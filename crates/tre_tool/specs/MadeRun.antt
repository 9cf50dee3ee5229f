-- How a made run ends: a run over words that ask for a trace of so many segments.
use Rattle.std.specs.Prelude.{◌≡◌, ℕ, List, Some, true, codes}
use Rattle.std.specs.Io.KnownBytes.{Appends}
use Rattle.tre_generate.specs.FixedPattern.{fixed_tree}
use Rattle.tre_generate.specs.Summary.{IsSummary}
use Rattle.tre_io.specs.Faults.{count_after}
use Rattle.tre_io.specs.Written.{AppendsPart}
use Rattle.tre_tell.specs.Outputs.{OutputTold, AllWritesGood, NothingWritten}
use Rattle.tre_words.specs.Job.{begins_with, made_count}
use Rattle.tre_tool.specs.declared.status.Status.{Status}
use Rattle.tre_tool.specs.declared.status.Status.TheVariants.{Done, WriteFault, Memory}

-- The words ask for a made run of so many segments.
pub record AsksForMadeRun (words : List (List ℕ)) (count : ℕ) : Type 0 where
  pub first : begins_with (codes "--generate") words ≡ true
  pub second : made_count words ≡ Some count

-- The summary of a made run was written.
pub record SummaryWritten (count : ℕ) (output : OutputTold) : Type 0 where
  pub text : List ℕ
  pub right : IsSummary fixed_tree count text
  pub writes : AllWritesGood output
  pub written : Appends output.before.written output.now.written text

-- A first part of it was, and one failure to write was counted.
pub record SummaryIsCut (count : ℕ) (output : OutputTold) : Type 0 where
  pub text : List ℕ
  pub right : IsSummary fixed_tree count text
  pub cause : output.now.faults ≡ count_after output.before.faults
  pub written : AppendsPart output.before.written output.now.written text

-- The end of a made run of so many segments, status by status. No other status comes.
abbrev pub EndsMadeRun : ℕ → OutputTold → Status → Type 0
EndsMadeRun count output Done = SummaryWritten count output
EndsMadeRun count output WriteFault = SummaryIsCut count output
EndsMadeRun count output Memory = NothingWritten output
EndsMadeRun count output _ = ⊥
