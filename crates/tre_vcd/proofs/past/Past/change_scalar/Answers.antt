use Rattle.std.proofs.Common.{◌≡◌, ◌∷◌, false, refl, sym, ◌∙◌, subst}
use Rattle.tre_vcd.specs.VcdReading.{change, in_dump, scalar}
use Rattle.tre_vcd.specs.Kept.{KnowsOfPast}
use Rattle.tre_vcd.proofs.Pasts.{knows-change, events-unread, outside-read}
use Rattle.tre_vcd.proofs.past.Past.change_scalar.Goals as goal

pub returns-then-reads_events-clause-knows : goal.returns-then-reads_events-clause-knows
returns-then-reads_events-clause-knows c = λ names event_names past known defined letters value_is.
    let kept = c.args.self.now in
    let identifier = c.args.identifier.now in
    let outside : in_dump past ≡ false =
    sym known.dump ∙ outside-read kept (sym c.reads_events.ensures ∙ c.if-reads_events.true) in
    subst (λ now. KnowsOfPast names event_names now (change scalar identifier letters ∷ past))
    (sym c.say_event.ensures.same)
    (knows-change names event_names kept past scalar identifier letters c.args.value
    c.set_value.new.values c.say_event.new.self.happened c.having-changed.result defined value_is
    (c.having-changed.ensures (known.brief defined) known.propositions.sieve)
    c.set_value.ensures.changed c.set_value.ensures.kept
    (c.say_event.ensures.happened kept.values names event_names past letters known outside) known)

pub returns-else-reads_events-clause-knows : goal.returns-else-reads_events-clause-knows
returns-else-reads_events-clause-knows c = λ names event_names past known defined letters value_is.
    let kept = c.args.self.now in
    let identifier = c.args.identifier.now in
    knows-change names event_names kept past scalar identifier letters c.args.value
    c.set_value.new.values kept.happened c.having-changed.result defined value_is
    (c.having-changed.ensures (known.brief defined) known.propositions.sieve) c.set_value.ensures.changed
    c.set_value.ensures.kept
    (events-unread names event_names kept past identifier letters _ _ refl refl
    (sym c.reads_events.ensures ∙ c.if-reads_events.false) known) known
