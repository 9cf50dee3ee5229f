use Rattle.tre_vcd.specs.VcdReading.{wide}
use Rattle.tre_vcd.proofs.Skimming.{holds-changed, holds-still}
use Rattle.tre_vcd.proofs.token_reader.TokenReader.skim_told_vector.Goals as goal

pub returns-then-not-change_tests-clause-holds : goal.returns-then-not-change_tests-clause-holds
returns-then-not-change_tests-clause-holds c = λ past holds defined.
    let reader = c.args.self.now in
    holds-still reader past c.change_tests.new.self
    (c.if-not-change_tests.ensures.knows reader.names reader.events past wide defined
    holds.knows.signals) c.change_tests.ensures.kept holds

pub returns-clause-holds : goal.returns-clause-holds
returns-clause-holds c = λ past holds defined.
    let reader = c.args.self.now in
    let letters = c.args.letters.now in
    holds-changed reader past wide c.args.identifier.now letters c.change.new.self
    c.change_tests.new.self
    (c.change.ensures.knows reader.names reader.events past holds.knows.past defined letters
    c.ends_true.ensures)
    (c.if-not-change_tests.ensures.knows reader.names reader.events past wide defined
    holds.knows.signals) c.change_tests.ensures.kept holds
