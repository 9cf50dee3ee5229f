use Rattle.tre_node.proofs.Joins.{joins_none, joins_more, joins_all}
use Rattle.tre_node.proofs.joining.put_all_near.Goals as goal

pub loop-zone-init : goal.loop-zone-init
loop-zone-init c = joins_none c.args.outer.now.items

pub loop-zone-preserved : goal.loop-zone-preserved
loop-zone-preserved c =
    joins_more c.args.outer.now.items c.args.zones.now c.loop-zone.outer.items
    c.put_near.new.outer.items c.loop-zone.zone-index c.zone-item.result c.loop-zone-test.true
    c.zone-item.is c.loop-zone.invariant c.in_ok-at.ensures

pub returns : goal.returns
returns c =
    joins_all c.args.outer.now.items c.args.zones.now c.loop-zone.outer.items
    c.loop-zone.zone-index c.loop-zone-test.false c.loop-zone.invariant
