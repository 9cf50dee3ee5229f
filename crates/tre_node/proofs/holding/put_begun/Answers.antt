use Rattle.std.proofs.Common.{sym, subst}
use Rattle.std.proofs.lemmas.List.{append-nil}
use Rattle.tre_node.specs.IsNode.{IsStretch}
use Rattle.tre_node.proofs.BegunAt.{begun_all, begun_next}
use Rattle.tre_node.proofs.holding.put_begun.Goals as goal

pub loop-stretch-init : goal.loop-stretch-init
loop-stretch-init c = sym (append-nil c.args.found.now.items)

pub put_stretch-requires-clause-begun : goal.put_stretch-requires-clause-begun
put_stretch-requires-clause-begun c =
    subst (IsStretch c.args.time) (sym c.stretch-item.is)
    (c.requires.begun c.loop-stretch.stretch-index c.stretch-item.result c.loop-stretch-test.true)

pub loop-stretch-preserved : goal.loop-stretch-preserved
loop-stretch-preserved c =
    begun_next c.args.time c.args.begun.now c.args.found.now.items c.loop-stretch.found.items
    c.put_stretch.new.found.items c.loop-stretch.stretch-index c.stretch-item.result
    c.loop-stretch.invariant c.in_ok-put_stretch.ensures c.loop-stretch-test.true c.stretch-item.is

pub returns : goal.returns
returns c =
    begun_all c.args.time c.args.begun.now c.args.found.now.items c.loop-stretch.found.items
    c.loop-stretch.stretch-index c.loop-stretch.invariant c.loop-stretch-test.false
