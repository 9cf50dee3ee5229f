use Rattle.tre_node.proofs.Joins.{reach_given}
use Rattle.tre_node.proofs.joining.is_in_reach.Goals as goal

pub returns-in-Some : goal.returns-in-Some
returns-in-Some c =
    reach_given c.args.time c.args.reach c.in-Some.high c.saturating_sub.result c.args.zone.now
    c.in-Some.is c.saturating_sub.ensures c.ends_from.result c.ends_from.ensures
