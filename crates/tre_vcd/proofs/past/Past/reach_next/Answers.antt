use Rattle.tre_vcd.proofs.Pasts.{knows-time}
use Rattle.tre_vcd.proofs.past.Past.reach_next.Goals as goal

pub returns-clause-knows : goal.returns-clause-knows
returns-clause-knows c = λ names event_names past other known.
    knows-time names event_names c.args.self.now past c.args.ticks other known
