use Rattle.std.proofs.Common.{◌≡◌, Bool, true, false, refl}
use Rattle.tre_vcd.specs.Defined.{KnowsSignals}
use Rattle.tre_vcd.specs.Pairs.{KnowsPairs}
use Rattle.tre_vcd.specs.Signals.{KnowsChanges}
use Rattle.tre_vcd.specs.Taken.{behind_if}
use Rattle.tre_vcd.specs.VcdReading.{change, of_changes}
use Rattle.tre_vcd.proofs.Pairing.{pairs-passed}
use Rattle.tre_vcd.proofs.signals.Signals.change_tests.Goals as goal

pub returns-clause-knows : goal.returns-clause-knows
returns-clause-knows c = λ names events past form ended knows.
    let kept = c.args.self.now in
    let identifier = c.args.identifier.now in
    let letters = c.args.letters.now in
    let pairs : (told : Bool) → c.change.result ≡ told
    → KnowsPairs kept.definitions.items names kept.tests.sieve kept.pairs
    (behind_if told (change form identifier letters) past) =
    elim [
      | true ↦ λ is. pairs-passed _ names _ kept.pairs past form identifier letters ended
          (c.change.ensures.apart is) knows.pairs
      | false ↦ λ is. knows.pairs
    ] in
    let changes : (told : Bool) → KnowsChanges (of_changes kept.definitions.items) events
    kept.changes (behind_if told (change form identifier letters) past) =
    elim [
      | true ↦ c.may_read.ensures c.if-may_read.false _ events past form letters ended
          knows.changes
      | false ↦ knows.changes
    ] in
    record {
      tests = c.change.ensures.knows _ names past form ended knows.tests;
      pairs = rw (c.change.ensures.same) (pairs c.change.result refl);
      changes = changes c.change.result;
    }
