use Rattle.std.proofs.lemmas.Result.{IfOk-weaker}
use Rattle.tre_star.proofs.Short.{HoldExactly-unbounded}
use Rattle.tre_offline.proofs.matching.local.Goals as goal

pub returns : goal.returns
returns c =
    IfOk-weaker c.matches_of.result _ _ (λ zones held. HoldExactly-unbounded zones _ held)
    c.matches_of.ensures
