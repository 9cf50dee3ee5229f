use Rattle.std.proofs.Common.{subst, sym}
use Rattle.tre_node.specs.Stretches.{AddsStretch}
use Rattle.tre_node.proofs.Begins.{put_whole, put_new}
use Rattle.tre_node.proofs.stretches.put_stretch.Goals as goal

pub returns-in-Some-clause-added : goal.returns-in-Some-clause-added
returns-in-Some-clause-added c =
    put_whole c.args.begun.now.items c.args.place c.args.new.now c.in-Some.whole c.requires
    (rw c.deref.ensures.value at c.in-Some.ensures)

pub returns-clause-added : goal.returns-clause-added
returns-clause-added c =
    subst (λ list. AddsStretch c.args.begun.now.items c.args.new.now list) (sym c.in_ok-insert.ensures.items)
    (put_new c.args.begun.now.items c.args.place c.args.new.now)
