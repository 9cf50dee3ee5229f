-- How the writing of a text ends that needs no memory.
use Rattle.std.specs.Prelude.{◌≡◌, ℕ, ◌≤◌, ◌+◌, List, Result, Ok, Err, length, string_bytes}
use Rattle.tre_feed.specs.declared.fault.Fault.{Fault}
use Rattle.tre_feed.specs.declared.fault.Fault.TheVariants.{Write}
use Rattle.tre_io.specs.Faults.{count_after}
use Rattle.tre_io.specs.Written.{AppendsPart}
use Rattle.tre_tell.specs.Outputs.{OutputTold}
use Rattle.tre_tell.specs.Streams.{WroteText}
use Rattle.tre_answer.specs.Findings.{Finding}
use Rattle.tre_answer.specs.Listed.{listed_zones}
use Rattle.tre_answer.specs.declared.checks.Checked.{Checked}

-- A write failed, and a first part of the text was written.
pub record IsPartlyPut (text : List ℕ) (output : OutputTold) : Type 0 where
  pub cause : output.now.faults ≡ count_after output.before.faults
  pub part : AppendsPart output.before.written output.now.written text

abbrev pub EndsPutting : {T : Type 0} → List ℕ → OutputTold → Result T Fault → Type 0
EndsPutting text output (Ok value) = WroteText output text
EndsPutting text output (Err Write) = IsPartlyPut text output
EndsPutting text output (Err fault) = ⊥

-- ---- what becomes of checks

-- what was found of a check
abbrev pub finding_of : Checked → Finding
finding_of checked = record {
  name = string_bytes checked.name;
  verdict = checked.verdict;
  zones = listed_zones checked.zones;
}

-- A line of the name and two of a zone or a time have room in so many bytes.
abbrev pub HasRoom : ℕ → List ℕ → Type 0
HasRoom room name = length name + 384 ≤ room
