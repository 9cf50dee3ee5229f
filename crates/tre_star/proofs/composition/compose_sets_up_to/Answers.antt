use Rattle.std.proofs.Common.{rules}
use Rattle.std.proofs.lemmas.Result.{IfOk-weaker}
use Rattle.tre_zoneset.proofs.Unions.{HoldExactly-gathered}
use Rattle.tre_star.proofs.composition.compose_sets_up_to.Goals as goal

pub returns : goal.returns
returns c =
    search (rules, IfOk-weaker, HoldExactly-gathered, c.of_zones.result, c.in_ok-found.found.items)

pub compositions_of-requires-clause-seconds : goal.compositions_of-requires-clause-seconds
compositions_of-requires-clause-seconds c = rw c.zones-2.ensures.same
    c.zones-2.ensures.set.canonical
