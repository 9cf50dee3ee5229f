use Rattle.tre_vcd.proofs.Testing.{tests-unread}
use Rattle.tre_vcd.proofs.tests.Tests.may_read.Goals as goal

pub returns-clause-knows : goal.returns-clause-knows
returns-clause-knows c = λ is all names past form letters ended knows.
    tests-unread all names c.args.self.now past form c.args.identifier.now letters ended
    (c.may_be.ensures is) knows
