use Rattle.std.proofs.lemmas.Result.{on_ok_weaker}
use Rattle.tre_vcd.specs.VcdReading.{is_signal, is_event}
use Rattle.tre_vcd.specs.Kept.{identifier_of}
use Rattle.tre_vcd.proofs.Pasts.{keeps-declared, keeps-undeclared, knows-declared}
use Rattle.tre_vcd.proofs.past.Past.declare.Goals as goal

pub returns : goal.returns
returns c = λ event_names past tokens known before declares none.
    let kept = c.args.self.now in
    let names = c.args.names.now in
    on_ok_weaker c.declare.result (λ now.
    knows-declared names event_names kept past tokens c.declare.new.self kept.events before
    (keeps-declared is_signal past tokens names c.args.identifier.now c.args.path.now
    c.declare.new.self declares now)
    (keeps-undeclared is_event past tokens event_names kept.events none known.events) known)
    (c.declare.ensures (identifier_of is_signal past) known.propositions)
