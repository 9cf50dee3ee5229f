use Rattle.std.proofs.Common.{◌≡◌, ◌-◌, ◌≤◌, true, length}
use Rattle.tre_parts.specs.Marks.{AreMarks}
use Rattle.tre_parts.specs.Skims.{Skims}
use Rattle.tre_vcd.specs.VcdReading.{Place, is_white, vcd_format}
use Rattle.tre_vcd.specs.Sections.{Holds, asked_of_reader, terms_kept}
use Rattle.tre_vcd.specs.declared.inside.Inside.TheVariants.{Nothing}
use Rattle.tre_vcd.proofs.token_reader.TokenReader.skim_values.Given as goal

-- the tokens so far were read
abbrev pub invariant-loop-place : goal.invariant-loop-place
invariant-loop-place l = record {
  skims : (place : Place) → Holds l.fn.self place
      → Skims (asked_of_reader l.fn.self) (vcd_format (terms_kept l.fn.self)) (Holds l.self) place l.bytes
      l.fn.segments.items l.segments.items l.done;
  marks : AreMarks is_white l.bytes l.done.bytes l.marks;
  few : l.done.parts ≤ l.done.bytes;
  among : (l.self.past.is_defined ≡ true) × (l.self.inside ≡ Nothing);
  same_terms : terms_kept l.self ≡ terms_kept l.fn.self;
  same_names : asked_of_reader l.self ≡ asked_of_reader l.fn.self;
}

abbrev pub decreases-loop-place : goal.decreases-loop-place
decreases-loop-place l = length l.bytes - l.done.bytes
