use Rattle.tre_vcd.proofs.Pairing.{pairs-unsieved}
use Rattle.tre_vcd.proofs.signals.Signals.may_read.Goals as goal

pub returns : goal.returns
returns c = λ is names events past form letters ended knows. record {
  tests = c.may_read.ensures.knows c.if-may_read.false _ names past form letters ended knows.tests;
  pairs = pairs-unsieved _ names _ c.args.self.now.pairs past form c.args.identifier.now letters
      ended (c.may_read.ensures.none c.if-may_read.false) knows.pairs;
  changes = c.may_read-2.ensures is _ events past form letters ended knows.changes;
}
