use Rattle.tre_zone.specs.Longest.{LastsUpTo}
use Rattle.tre_star.proofs.Single.{short_some, short_none}
use Rattle.tre_star.proofs.chains.composed_up_to.Goals as goal

pub returns-in-Some : goal.returns-in-Some
returns-in-Some c =
    short_some (LastsUpTo c.args.longest) c.in-Some.zone c.up_to.result _
    (rw c.in-Some.is at c.compose.ensures.pairs) c.up_to.ensures

pub returns-in-None : goal.returns-in-None
returns-in-None c =
    short_none (LastsUpTo c.args.longest) _ (rw c.in-None.is at c.compose.ensures.pairs)
