use Rattle.tre_node.proofs.BegunAt.{cuts_more, cuts_none}
use Rattle.tre_node.proofs.holding.cut_begun.Goals as goal

pub loop-longest-init : goal.loop-longest-init
loop-longest-init c = cuts_none c.args.longest c.args.time c.args.begun.now.items

pub remove-requires : goal.remove-requires
remove-requires c =
    rw c.deref.ensures.len at ((c.is_first_too_old.ensures c.loop-longest-test.true).some)

pub loop-longest-preserved : goal.loop-longest-preserved
loop-longest-preserved c =
    cuts_more c.args.longest c.args.time c.args.begun.now.items c.loop-longest.begun.items
    c.remove.new.self.items c.loop-longest.invariant
    (rw c.deref.ensures.value at (c.is_first_too_old.ensures c.loop-longest-test.true))
    c.remove.ensures.items

pub returns : goal.returns
returns c = c.loop-longest.invariant
