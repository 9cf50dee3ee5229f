use Rattle.tre_node.proofs.Begins.{begins_none, begins_more}
use Rattle.tre_node.proofs.stretches.add_begins.Goals as goal

pub loop-zone-init : goal.loop-zone-init
loop-zone-init c = (begins_none c.args.begun.now.items c.args.time, λ all. all)

pub loop-zone-preserved : goal.loop-zone-preserved
loop-zone-preserved c = (
  begins_more c.args.begun.now.items c.args.time c.args.entering.now c.loop-zone.zone-index
      c.zone-item.result c.loop-zone.begun.items c.add_begins_of.new.begun.items
      c.loop-zone-test.true c.zone-item.is c.loop-zone.invariant.0
      c.in_ok-add_begins_of.ensures.begins,
  λ all. c.in_ok-add_begins_of.ensures.are (c.loop-zone.invariant.1 all),
)
