use Rattle.std.proofs.Common.{◌≡◌, refl, sym, subst, ◌∙◌}
use Rattle.tre_parts.specs.Walk.{TellsPart}
use Rattle.tre_vcd.specs.VcdReading.{keyword_says}
use Rattle.tre_vcd.specs.Sections.{Holds, asked_of_reader, dump_says, dump_end_says}
use Rattle.tre_vcd.proofs.token_reader.TokenReader.read_keyword.Goals as goal

pub returns-then-is_dump-clause-tells : goal.returns-then-is_dump-clause-tells
returns-then-is_dump-clause-tells c = λ past holds defined.
    let says : keyword_says past c.args.token.now ≡ dump_says past =
    rw (sym c.is_dump.ensures ∙ c.if-is_dump.true) refl in
    subst (λ said. TellsPart (asked_of_reader c.args.self.now) said (Holds c.open_dump.new.self)
    c.open_dump.result) (sym says) (c.open_dump.ensures.tells past holds defined)

pub returns-then-is_end-clause-tells : goal.returns-then-is_end-clause-tells
returns-then-is_end-clause-tells c = λ past holds defined.
    let says : keyword_says past c.args.token.now ≡ dump_end_says past =
    rw (sym c.is_dump.ensures ∙ c.if-is_dump.false, sym c.is_end.ensures ∙ c.if-is_end.true) refl in
    subst (λ said. TellsPart (asked_of_reader c.args.self.now) said (Holds c.close_dump.new.self)
    c.close_dump.result) (sym says) (c.close_dump.ensures.tells past holds defined)
