use Rattle.std.proofs.Common.{refl, ap, ◌∙◌, arith}
use Rattle.tre_vcd.specs.Signals.{bit_of}
use Rattle.tre_vcd.proofs.Testing.{tests-pushed}
use Rattle.tre_vcd.proofs.tests.Tests.add.Goals as goal

pub returns-clause-knows : goal.returns-clause-knows
returns-clause-knows c = λ all names name knows same own.
    tests-pushed all names name c.args.self.now c.push.new.self
    (record { definition = c.in_ok-definition.definition; asked = _ }) c.set_bit.new.values _
    c.in_ok-push.ensures.items refl same c.requires.few
    (omega (arith, c.as_slice.ensures.len, c.requires.few)) (c.in_ok-definition.ensures ∙ own)
    (c.set_bit.ensures.this ∙ ap bit_of c.is_some-is_defined.ensures) c.set_bit.ensures.others
    knows
