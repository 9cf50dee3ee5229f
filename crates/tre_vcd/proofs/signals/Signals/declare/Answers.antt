use Rattle.std.proofs.lemmas.Result.{on_ok_weaker}
use Rattle.tre_vcd.proofs.Pairing.{pairs-before}
use Rattle.tre_vcd.proofs.signals.Signals.declare.Goals as goal

pub returns-clause-knows : goal.returns-clause-knows
returns-clause-knows c = λ names events past tokens offered quiet before knows.
    on_ok_weaker c.declare-3.result (λ changes. record {
      tests = c.in_ok-declare.ensures _ names past tokens offered quiet before knows.tests;
      pairs = pairs-before _ names _ _ c.declare-2.new.self _ before
          (c.in_ok-declare-2.ensures _ names _ past tokens offered quiet before knows.pairs);
      changes = changes;
    }) (c.declare-3.ensures _ events past tokens offered quiet before knows.changes)
