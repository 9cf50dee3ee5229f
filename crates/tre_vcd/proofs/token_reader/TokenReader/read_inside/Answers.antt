use Rattle.std.proofs.Common.{◌++◌, ◌∷◌, [], Bool, sym, ◌∙◌, subst, if◌then◌else◌}
use Rattle.tre_parts.specs.Walk.{TellsPart}
use Rattle.tre_vcd.specs.VcdReading.{section, section_says, goes_to}
use Rattle.tre_vcd.specs.Sections.{Holds, asked_of_reader}
use Rattle.tre_vcd.proofs.token_reader.TokenReader.read_inside.Goals as goal

pub returns-then-is_end-clause-tells : goal.returns-then-is_end-clause-tells
returns-then-is_end-clause-tells c = λ past word tokens holds is.
    subst (λ (b : Bool). TellsPart (asked_of_reader c.args.self.now) (if b then section_says past word tokens
    else goes_to past
    (section word (tokens ++ c.args.token.now ∷ []))) (Holds c.end_section.new.self)
    c.end_section.result)
    (sym (sym c.is_end.ensures ∙ c.if-is_end.true))
    (c.end_section.ensures.tells past word tokens holds is)

pub returns-clause-tells : goal.returns-clause-tells
returns-clause-tells c = λ past word tokens holds is.
    subst (λ (b : Bool). TellsPart (asked_of_reader c.args.self.now) (if b then section_says past word tokens
    else goes_to past
    (section word (tokens ++ c.args.token.now ∷ []))) (Holds c.keep.new.self) c.keep.result)
    (sym (sym c.is_end.ensures ∙ c.if-is_end.false))
    (c.keep.ensures.tells past word tokens holds)
