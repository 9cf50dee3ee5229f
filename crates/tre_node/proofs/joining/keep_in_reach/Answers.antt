use Rattle.std.proofs.Common.{rules}
use Rattle.tre_node.proofs.Joins.{kept_from_retain}
use Rattle.tre_node.proofs.joining.keep_in_reach.Goals as goal

pub returns : goal.returns
returns c = kept_from_retain c.args.reach c.args.time _ _ (λ zone b f' k. search rules) _ _
    c.retain.ensures.filtered
