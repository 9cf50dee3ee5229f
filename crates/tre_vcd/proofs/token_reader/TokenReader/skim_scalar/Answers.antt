use Rattle.std.proofs.Common.{◌∷◌, [], refl, sym, ◌∙◌}
use Rattle.tre_vcd.specs.VcdReading.{scalar}
use Rattle.tre_vcd.proofs.Skimming.{holds-changed, scalar-taken}
use Rattle.tre_vcd.proofs.token_reader.TokenReader.skim_scalar.Goals as goal

pub returns-then-may_read-clause-taken : goal.returns-then-may_read-clause-taken
returns-then-may_read-clause-taken c = λ past letters segments holds defined.
    c.skim_told_scalar.ensures.taken past letters segments
    (sym c.is_empty.ensures ∙ c.if-is_empty.false) holds defined

pub returns-clause-taken : goal.returns-clause-taken
returns-clause-taken c = λ past letters segments holds defined.
    let reader = c.args.self.now in
    let letter = c.args.letter ∷ [] in
    scalar-taken past c.args.letter c.args.identifier.now segments
    (sym c.is_empty.ensures ∙ c.if-is_empty.false)
    (holds-changed reader past scalar c.args.identifier.now letter c.change_scalar.new.self
    reader.signals
    (c.change_scalar.ensures.knows reader.names reader.events past holds.knows.past defined letter
    refl)
    (c.may_read.ensures c.if-may_read.false reader.names reader.events past scalar letter defined
    holds.knows.signals) refl holds)
