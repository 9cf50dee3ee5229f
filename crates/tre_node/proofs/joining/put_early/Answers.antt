use Rattle.tre_node.proofs.Joins.{keeps_none, keeps_more, keeps_all}
use Rattle.tre_node.proofs.joining.put_early.Goals as goal

pub loop-zone-init : goal.loop-zone-init
loop-zone-init c = keeps_none c.args.reach c.args.time c.args.outer.now.items

pub loop-zone-preserved : goal.loop-zone-preserved
loop-zone-preserved c =
    keeps_more c.args.reach c.args.time c.args.outer.now.items c.args.entering.now
    c.loop-zone.zone-index c.zone-item.result c.loop-zone.outer.items
    c.put_early_zone.new.outer.items c.loop-zone-test.true c.zone-item.is c.loop-zone.invariant
    c.in_ok-at.ensures

pub returns : goal.returns
returns c =
    keeps_all c.args.reach c.args.time c.args.outer.now.items c.args.entering.now
    c.loop-zone.zone-index c.loop-zone.outer.items c.loop-zone-test.false c.loop-zone.invariant
