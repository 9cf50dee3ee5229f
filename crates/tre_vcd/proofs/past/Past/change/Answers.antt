use Rattle.std.proofs.Common.{refl}
use Rattle.tre_vcd.specs.VcdReading.{wide}
use Rattle.tre_vcd.proofs.Pasts.{knows-change, events-stay}
use Rattle.tre_vcd.proofs.past.Past.change.Goals as goal

pub returns-clause-knows : goal.returns-clause-knows
returns-clause-knows c = λ names event_names past known defined letters value_is.
    let kept = c.args.self.now in
    let identifier = c.args.identifier.now in
    knows-change names event_names kept past wide identifier letters c.args.value c.set_value.new.values
    kept.happened c.having-changed.result defined value_is
    (c.having-changed.ensures (known.brief defined) known.propositions.sieve) c.set_value.ensures.changed
    c.set_value.ensures.kept
    (events-stay names event_names kept past wide identifier letters (λ other. refl) known) known
