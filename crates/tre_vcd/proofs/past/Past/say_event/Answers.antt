use Rattle.tre_vcd.proofs.Pasts.{events-said}
use Rattle.tre_vcd.proofs.past.Past.say_event.Goals as goal

pub returns-clause-happened : goal.returns-clause-happened
returns-clause-happened c = λ values names event_names past letters known outside.
    events-said names event_names (record c.args.self.now { values = values }) past
    c.args.identifier.now letters
    c.set_value.new.values c.having-said.result outside
    (c.having-said.ensures known.events.sieve) c.set_value.ensures.changed
    c.set_value.ensures.kept known
