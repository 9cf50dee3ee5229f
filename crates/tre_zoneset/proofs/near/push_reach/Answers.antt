use Rattle.std.proofs.Common.{rules}
use Rattle.tre_zoneset.proofs.near.push_reach.Goals as goal

pub returns : goal.returns
returns c = search (rules, c.bounds.ensures.same, c.deref.ensures.value)
