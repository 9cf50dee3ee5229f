use Rattle.std.proofs.Common.{ap, ◌∙◌}
use Rattle.tre_vcd.specs.Signals.{part_at}
use Rattle.tre_vcd.proofs.Watching.{changes-sifted}
use Rattle.tre_vcd.proofs.changes.Changes.sift.Goals as goal

pub returns : goal.returns
returns c = λ all names past knows.
    changes-sifted all names c.args.self.now past c.sift_each.new.sieve
    (λ k asked small is. c.sift_each.ensures k asked small
    (ap (λ list. part_at list k) c.deref.ensures.value ∙ is))
    knows
