use Rattle.std.proofs.Common.{[], sym, subst}
use Rattle.tre_vcd.specs.VcdReading.{of_changes}
use Rattle.tre_vcd.specs.Pairs.{KnowsPairs}
use Rattle.tre_vcd.specs.Signals.{KnowsChanges, KnowsTests}
use Rattle.tre_vcd.proofs.signals.Signals.new.Goals as goal

pub returns-clause-knows : goal.returns-clause-knows
returns-clause-knows c =
    let names = c.args.names.now in
    let events = c.args.events.now in
    let copied = sym c.in_ok-definitions.ensures in
    record {
      tests = subst (λ own. KnowsTests own names c.in_ok-tests.tests []) copied
          c.in_ok-tests.ensures;
      pairs = subst (λ own. KnowsPairs own names c.in_ok-tests.tests.sieve c.in_ok-pairs.pairs [])
          copied (c.in_ok-pairs.ensures c.in_ok-tests.tests.sieve);
      changes = subst (λ own. KnowsChanges (of_changes own) events c.in_ok-changes.changes [])
          copied c.in_ok-changes.ensures;
    }
