use Rattle.std.proofs.Common.{◌∙◌, rules}
use Rattle.tre_vcd.proofs.Slots.{having-both}
use Rattle.tre_vcd.proofs.brief.Brief.having.Goals as goal

pub returns-then-numbers-eq0 : goal.returns-then-numbers-eq0
returns-then-numbers-eq0 c =
    search (rules, c.args.variables.now.list.items, c.args.identifier.now, c.args.self.now.firsts)

pub returns-then-slot-eq0 : goal.returns-then-slot-eq0
returns-then-slot-eq0 c = λ told sieve. c.having_apart.ensures sieve

pub returns : goal.returns
returns c = λ told sieve.
    let variables = c.args.variables.now.list.items in
    let identifier = c.args.identifier.now in
    let brief = c.args.self.now in
    rw (c.first_slot.ensures.slot, c.second_slot-slot.ensures.slot)
    (having-both variables identifier brief.firsts brief.seconds told.firsts told.seconds
    (λ none. c.if-slot-eq0.false (c.second_slot-slot.ensures.slot ∙ none)))
