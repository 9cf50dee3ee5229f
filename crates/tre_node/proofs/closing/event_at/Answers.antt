use Rattle.tre_node.proofs.Closings.{happens_then}
use Rattle.tre_node.proofs.closing.event_at.Goals as goal

pub returns-then-happens : goal.returns-then-happens
returns-then-happens c =
    happens_then c.args.time c.args.events c.args.number c.instants.result
    (c.happens.ensures.0 c.if-happens.true) c.instants.ensures.held
