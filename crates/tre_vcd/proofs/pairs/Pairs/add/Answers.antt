use Rattle.std.proofs.Common.{sym, ap, ◌∙◌, arith}
use Rattle.std.specs.Option.{is_some}
use Rattle.tre_vcd.specs.Pairs.{compared_by}
use Rattle.tre_vcd.specs.Signals.{bit_of}
use Rattle.tre_vcd.proofs.Pairing.{only-some, pairs-pushed}
use Rattle.tre_vcd.proofs.pairs.Pairs.add.Goals as goal

pub returns-clause-knows : goal.returns-clause-knows
returns-clause-knows c = λ all names sieve name knows same own.
    pairs-pushed all names sieve name c.args.self.now c.push.new.self
    (record { definition = c.in_ok-definition.definition; one = _; other = _ })
    c.set_bit.new.values _ c.in_ok-push.ensures.items c.new.ensures.asked c.new.ensures.letters
    c.new-2.ensures.asked c.new-2.ensures.letters same c.requires.few
    (omega (arith, c.as_slice.ensures.len, c.requires.few)) (c.in_ok-definition.ensures ∙ own)
    (c.set_bit.ensures.this ∙ ap bit_of (c.is_some-is_compared.ensures
    ∙ ap is_some c.compared_by.ensures
    ∙ ap (λ it. is_some (compared_by it)) (sym c.in_ok-definition.ensures)
    ∙ sym (only-some c.in_ok-definition.definition)))
    c.set_bit.ensures.others knows
