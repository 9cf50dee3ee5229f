use Rattle.std.proofs.Common.{refl, subst}
use Rattle.std.proofs.lemmas.Result.{on_ok_weaker}
use Rattle.tre_vcd.specs.Signals.{KnowsTests}
use Rattle.tre_vcd.specs.Taken.{behind_if}
use Rattle.tre_vcd.specs.VcdReading.{change}
use Rattle.tre_vcd.proofs.signals.Signals.change.Goals as goal

pub returns-clause-knows : goal.returns-clause-knows
returns-clause-knows c = λ names events past form ended knows.
    let all = c.args.self.now.definitions.items in
    let statement = change form c.args.identifier.now c.args.letters.now in
    on_ok_weaker c.change-3.result (λ changes. record {
      tests = subst (λ told. KnowsTests all names c.change.new.self (behind_if told statement past))
          (c.change.ensures.all refl) (c.change.ensures.knows _ names past form ended knows.tests);
      pairs = rw (c.change.ensures.same) (c.in_ok-change.ensures _ names _ past form ended
          c.numbers-numbers.ensures knows.pairs);
      changes = changes;
    }) (c.change-3.ensures _ events past form ended knows.changes)
