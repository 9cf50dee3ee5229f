use Rattle.std.proofs.Common.{arith}
use Rattle.tre_edges.proofs.InstantLists.{AreInstants-push}
use Rattle.tre_edges.proofs.instants.add_instant.Goals as goal

pub returns-in_ok-push_disjoint-clause-instants : goal.returns-in_ok-push_disjoint-clause-instants
returns-in_ok-push_disjoint-clause-instants c =
    rw (c.in_ok-push_disjoint.ensures.ok, c.instants.ensures.bounds)
    (AreInstants-push 0 c.args.instant
    (omega arith) c.args.zones.now c.requires.instants c.requires.ended)
