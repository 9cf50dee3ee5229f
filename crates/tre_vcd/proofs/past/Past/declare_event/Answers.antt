use Rattle.std.proofs.lemmas.Result.{on_ok_weaker}
use Rattle.tre_vcd.specs.VcdReading.{is_signal, is_event}
use Rattle.tre_vcd.specs.Kept.{identifier_of}
use Rattle.tre_vcd.proofs.Pasts.{keeps-declared, keeps-undeclared, knows-declared}
use Rattle.tre_vcd.proofs.past.Past.declare_event.Goals as goal

pub returns : goal.returns
returns c = λ names past tokens known before declares none.
    let kept = c.args.self.now in
    let events = c.args.events.now in
    on_ok_weaker c.declare.result (λ now.
    knows-declared names events kept past tokens kept.propositions c.declare.new.self before
    (keeps-undeclared is_signal past tokens names kept.propositions none known.propositions)
    (keeps-declared is_event past tokens events c.args.identifier.now c.args.path.now
    c.declare.new.self declares now) known)
    (c.declare.ensures (identifier_of is_event past) known.events)
