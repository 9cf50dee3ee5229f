use Rattle.tre_vcd.proofs.Pairing.{pairs-before}
use Rattle.tre_vcd.proofs.Testing.{tests-sieved}
use Rattle.tre_vcd.proofs.signals.Signals.sift.Goals as goal

pub returns-clause-knows : goal.returns-clause-knows
returns-clause-knows c = λ names events past before knows. record {
  tests = tests-sieved _ names c.sift.new.self _ c.sift-2.new.sieve c.sift-2.ensures.kept
      (c.sift.ensures _ names past knows.tests);
  pairs = c.sift-2.ensures.knows _ names past
      (pairs-before _ names _ _ c.args.self.now.pairs past before knows.pairs);
  changes = c.sift-3.ensures _ events past knows.changes;
}
