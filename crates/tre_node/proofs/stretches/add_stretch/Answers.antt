use Rattle.tre_node.proofs.Begins.{adds_then}
use Rattle.tre_node.proofs.stretches.add_stretch.Goals as goal

pub returns : goal.returns
returns c =
    adds_then c.args.begun.now.items c.put_stretch.new.begun.items c.join_next.new.begun.items
    c.args.new.now c.in_ok-place.ensures.added c.join_next.ensures
