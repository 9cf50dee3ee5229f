use Rattle.tre_decimal.specs.Decimal.{units_of}
use Rattle.tre_text.proofs.Heads.{told, heads-zero}
use Rattle.tre_text.specs.TextReading.{past_at}
use Rattle.tre_text.proofs.line.head_of.Goals as goal

pub returns-then-len-eq0 : goal.returns-then-len-eq0
returns-then-len-eq0 c = (
  λ said. heads-zero c.begins_with_a_digit.ensures c.args.scale (past_at c.args.known.end said)
      c.args.first.now
      c.requires.no_comment c.in-Some.len
      (told (units_of c.args.scale c.args.first.now) c.in-Some.len c.in-Some.ensures)
      c.if-len-eq0.true,
  λ e. cc,
)
