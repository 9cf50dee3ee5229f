use Rattle.std.proofs.Common.{◌∷◌, [], refl}
use Rattle.tre_vcd.specs.VcdReading.{scalar}
use Rattle.tre_vcd.proofs.Skimming.{holds-changed, holds-still, scalar-taken}
use Rattle.tre_vcd.proofs.token_reader.TokenReader.skim_told_scalar.Goals as goal

pub returns-then-not-change_tests-clause-taken : goal.returns-then-not-change_tests-clause-taken
returns-then-not-change_tests-clause-taken c = λ past letters segments some holds defined.
    let reader = c.args.self.now in (
      holds-still reader past c.change_tests.new.self
          (c.if-not-change_tests.ensures.knows reader.names reader.events past scalar defined
          holds.knows.signals) c.change_tests.ensures.kept holds,
      refl,
    )

pub returns-clause-taken : goal.returns-clause-taken
returns-clause-taken c = λ past letters segments some holds defined.
    let reader = c.args.self.now in
    let letter = c.args.letter ∷ [] in
    scalar-taken past c.args.letter c.args.identifier.now segments some
    (holds-changed reader past scalar c.args.identifier.now letter c.change_scalar.new.self
    c.change_tests.new.self
    (c.change_scalar.ensures.knows reader.names reader.events past holds.knows.past defined letter
    refl)
    (c.if-not-change_tests.ensures.knows reader.names reader.events past scalar defined
    holds.knows.signals) c.change_tests.ensures.kept holds)
