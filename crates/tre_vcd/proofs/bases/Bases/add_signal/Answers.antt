use Rattle.tre_vcd.proofs.Signalling.{signal-added}
use Rattle.tre_vcd.proofs.bases.Bases.add_signal.Goals as goal

pub returns-clause-added : goal.returns-clause-added
returns-clause-added c =
    signal-added c.add.result c.add_fronts.new.self c.add.new.self c.args.text.now
    c.in_ok-add_fronts.ensures.added c.add.ensures.added c.add.ensures.kept

pub returns-clause-kept : goal.returns-clause-kept
returns-clause-kept c = λ other has.
    c.add.ensures.kept other (c.in_ok-add_fronts.ensures.kept other has)
