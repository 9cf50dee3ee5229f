use Rattle.std.proofs.Common.{ap, ◌∙◌}
use Rattle.std.specs.List.{slice_get}
use Rattle.tre_vcd.proofs.Pairing.{pairs-sifted}
use Rattle.tre_vcd.proofs.pairs.Pairs.sift.Goals as goal

pub returns-clause-knows : goal.returns-clause-knows
returns-clause-knows c = λ all names past knows.
    pairs-sifted all names _ c.sift_each.new.sieve c.args.self.now past
    (λ k paired small is. c.sift_each.ensures.told k paired small
    (ap (λ list. slice_get list k) c.deref.ensures.value ∙ is)) knows
