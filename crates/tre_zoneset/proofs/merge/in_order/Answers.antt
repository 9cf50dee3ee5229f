use Rattle.tre_zoneset.proofs.Thinning.{HoldExactly-moved}
use Rattle.tre_zoneset.proofs.merge.in_order.Goals as goal

pub returns-then-not-are_in_order : goal.returns-then-not-are_in_order
returns-then-not-are_in_order c =
    HoldExactly-moved c.args.zones.items c.sort_unstable_by_key.new.self.items
    c.sort_unstable_by_key.ensures.permutation
