use Rattle.tre_edges.proofs.MomentsOfTraces.{moments_exact}
use Rattle.tre_edges.proofs.all_moments.moments.Goals as goal

pub returns : goal.returns
returns g c =
    moments_exact (g.T.AnyTrace.timeline c.args.trace.now) c.instants.result c.new-zones.result c.add.new.self
    c.end.result c.new-zones.ensures c.end.ensures.end c.instants.ensures.held
    c.in_ok-add.ensures.held
