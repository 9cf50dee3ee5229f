use Rattle.tre_vcd.proofs.signals.Signals.valuation.Goals as goal

pub returns : goal.returns
returns c = λ names events past knows plain.
    c.valuation-2.ensures _ names _ past knows.pairs
    (c.valuation.ensures _ names past knows.tests plain)
