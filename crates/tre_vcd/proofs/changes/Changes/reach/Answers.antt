use Rattle.tre_vcd.proofs.Watching.{changes-timed}
use Rattle.tre_vcd.proofs.changes.Changes.reach.Goals as goal

pub returns : goal.returns
returns c = λ all names past ticks other knows.
    changes-timed all names c.args.self.now past ticks other knows
