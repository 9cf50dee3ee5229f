use Rattle.std.proofs.Common.{refl}
use Rattle.tre_parts.specs.Blanks.{SkipsBlanks}
use Rattle.tre_parts.specs.Growing.{reading-grows}
use Rattle.tre_parts.specs.Times.{reading-is_trace}
use Rattle.tre_vcd.specs.Times.{vcd-keeps_time}
use Rattle.tre_vcd.specs.VcdReading.{Terms, token_says, vcd_format}
use Rattle.tre_vcd.proofs.laws.reading.Goals as goal

vcd-skips_blanks : (terms : Terms) → SkipsBlanks (vcd_format terms)
unfolding token_says
vcd-skips_blanks terms = record { blank = λ place. refl; place = λ spot. refl }

pub returns : goal.returns
returns c = record {
  is_trace = λ terms asked closed bytes.
      reading-is_trace asked (vcd_format terms) closed bytes (vcd-keeps_time terms);
  grows = λ terms closed first more. reading-grows (vcd_format terms) closed first more;
  white = vcd-skips_blanks;
}
