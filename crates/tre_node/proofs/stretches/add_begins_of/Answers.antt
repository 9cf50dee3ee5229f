use Rattle.std.proofs.lemmas.Result.{on_ok_weaker}
use Rattle.tre_node.proofs.Begins.{adds_given, adds_none}
use Rattle.tre_node.proofs.stretches.add_begins_of.Goals as goal

pub returns-in-Some-clause-begins : goal.returns-in-Some-clause-begins
returns-in-Some-clause-begins c =
    on_ok_weaker c.add_stretch.result
    (λ h. adds_given c.args.begun.now.items c.add_stretch.new.begun.items c.in-Some.stretch _
    c.in-Some.ensures.1 h) c.add_stretch.ensures

pub returns-in-Some-clause-are : goal.returns-in-Some-clause-are
returns-in-Some-clause-are c = λ all.
    on_ok_weaker c.add_stretch.result
    (λ h. h.are c.args.time all c.in-Some.ensures.0) c.add_stretch.ensures

pub returns-in-None-clause-begins : goal.returns-in-None-clause-begins
returns-in-None-clause-begins c = adds_none c.args.begun.now.items _ c.in-None.ensures
