use Rattle.tre_online.proofs.Finding.{tells_closed}
use Rattle.tre_online.proofs.session.Session.found_at_end.Goals as goal

pub close-requires-clause-node : goal.close-requires-clause-node
close-requires-clause-node c = c.in_ok-copy.ensures.node_is c.args.time c.requires.node

pub returns-clause-tells : goal.returns-clause-tells
returns-clause-tells c =
    tells_closed c.requires.made c.in_ok-copy.ensures c.in_ok-close.ensures
    c.in_ok-tell.ensures.same
