use Rattle.tre_node.proofs.Joins.{early_given, late_given}
use Rattle.tre_node.proofs.joining.early_in_reach.Goals as goal

pub returns-in-Some : goal.returns-in-Some
returns-in-Some c =
    early_given c.args.reach c.args.time c.args.zone.now c.in-Some.early c.in-Some.ensures
    c.only_in_reach.result c.only_in_reach.ensures

pub returns-in-None : goal.returns-in-None
returns-in-None c = late_given c.args.reach c.args.time c.args.zone.now c.in-None.ensures
