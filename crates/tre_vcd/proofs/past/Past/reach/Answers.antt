use Rattle.tre_vcd.proofs.Pasts.{knows-time, knows-same_time}
use Rattle.tre_vcd.proofs.past.Past.reach.Goals as goal

pub returns-then-ticks-self-clause-knows : goal.returns-then-ticks-self-clause-knows
returns-then-ticks-self-clause-knows c = λ names event_names past known.
    knows-time names event_names c.args.self.now past c.args.ticks c.if-ticks-self.true known

pub returns-else-ticks-self-clause-knows : goal.returns-else-ticks-self-clause-knows
returns-else-ticks-self-clause-knows c = λ names event_names past known.
    knows-same_time names event_names c.args.self.now past c.args.ticks c.if-ticks-self.false known
