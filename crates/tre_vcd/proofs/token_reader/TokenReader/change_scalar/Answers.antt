use Rattle.std.proofs.Common.{◌∷◌, [], refl, sym, ◌∙◌}
use Rattle.tre_vcd.specs.VcdReading.{scalar}
use Rattle.tre_vcd.proofs.Skimming.{change-told, holds-changed}
use Rattle.tre_vcd.proofs.Undefined.{signals-undefined}
use Rattle.tre_vcd.proofs.token_reader.TokenReader.change_scalar.Goals as goal

pub returns-then-is_empty-clause-tells : goal.returns-then-is_empty-clause-tells
returns-then-is_empty-clause-tells c = λ past holds defined.
    let reader = c.args.self.now in
    let letter = c.args.letter ∷ [] in
    change-told past scalar c.args.identifier.now letter
    (holds-changed reader past scalar c.args.identifier.now letter c.change_scalar.new.self
    reader.signals
    (c.change_scalar.ensures.knows reader.names reader.events past holds.knows.past defined letter
    refl)
    (signals-undefined reader.names reader.events reader.signals past _
    (sym c.is_empty.ensures ∙ c.if-is_empty.true) holds.knows.signals) refl holds)

pub returns-in-Ok-clause-tells : goal.returns-in-Ok-clause-tells
returns-in-Ok-clause-tells c = λ past holds defined.
    let reader = c.args.self.now in
    let letter = c.args.letter ∷ [] in
    change-told past scalar c.args.identifier.now letter
    (holds-changed reader past scalar c.args.identifier.now letter c.change_scalar.new.self
    c.change.new.self
    (c.change_scalar.ensures.knows reader.names reader.events past holds.knows.past defined letter
    refl)
    (c.in-Ok.ensures.knows reader.names reader.events past scalar defined holds.knows.signals)
    c.in-Ok.ensures.kept holds)
