use Rattle.std.proofs.Common.{◌-◌, ◌≤◌, List, ℕ, length}
use Rattle.tre_parts.specs.Bytes.{between}
use Rattle.tre_parts.specs.Marks.{AreMarks}
use Rattle.tre_parts.specs.Skims.{Skims}
use Rattle.tre_text.specs.Lines.{Knows}
use Rattle.tre_text.specs.Plain.{asked_of, LineIsOpen}
use Rattle.tre_text.specs.TextReading.{Past, text_format}
use Rattle.tre_text.specs.Words.{stops_name}
use Rattle.tre_text.proofs.skim.skim_lines.Given as goal

-- the lines so far were read, and the words so far of the line that is open
abbrev pub invariant-loop-place : goal.invariant-loop-place
invariant-loop-place l = record {
  skims : (events : List (List ℕ)) (past : Past) → Knows events l.fn.known past
      → Skims (asked_of l.names events) (text_format l.scale) (Knows events l.known) past
      l.bytes l.fn.segments.items l.segments.items l.done;
  open_is : LineIsOpen l.names l.scale l.known.end (between l.bytes l.done.bytes l.start) l.line;
  marks : AreMarks stops_name l.bytes l.start l.marks;
  few : l.done.parts ≤ l.done.bytes;
  behind : l.done.bytes ≤ l.start;
}

abbrev pub decreases-loop-place : goal.decreases-loop-place
decreases-loop-place l = length l.bytes - l.start
