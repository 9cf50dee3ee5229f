use Rattle.std.proofs.Common.{◌≡◌, true, false, Some, sym, ap, ◌∙◌, rules}
use Rattle.std.specs.Option.{is_some}
use Rattle.tre_vcd.specs.VcdReading.{timescale_at}
use Rattle.tre_vcd.proofs.Pasts.{knows-measured, first-measured, later-measured}
use Rattle.tre_vcd.proofs.past.Past.measure.Goals as goal

pub returns-then-is_none : goal.returns-then-is_none
returns-then-is_none c = λ names event_names past tokens known same.
    let none : is_some c.args.self.now.tick ≡ false = search rules in
    knows-measured names event_names c.args.self.now past tokens (Some c.tick_of.result)
    (ap Some (c.tick_of.ensures ∙ same)
    ∙ sym (first-measured (timescale_at past) tokens (ap is_some (sym known.tick) ∙ none))) known

pub returns-else-is_none : goal.returns-else-is_none
returns-else-is_none c = λ names event_names past tokens known same.
    let some : is_some c.args.self.now.tick ≡ true = search rules in
    knows-measured names event_names c.args.self.now past tokens c.args.self.now.tick
    (known.tick
    ∙ sym (later-measured (timescale_at past) tokens (ap is_some (sym known.tick) ∙ some))) known
