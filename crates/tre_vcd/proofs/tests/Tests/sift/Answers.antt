use Rattle.std.proofs.Common.{ap, ◌∙◌}
use Rattle.tre_vcd.specs.Signals.{test_at}
use Rattle.tre_vcd.proofs.Testing.{tests-sifted}
use Rattle.tre_vcd.proofs.tests.Tests.sift.Goals as goal

pub returns : goal.returns
returns c = λ all names past knows.
    tests-sifted all names c.args.self.now past c.sift_each.new.sieve
    (λ k asked small is. c.sift_each.ensures k asked small
    (ap (λ list. test_at list k) c.deref.ensures.value ∙ is))
    knows
