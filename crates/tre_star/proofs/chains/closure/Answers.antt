use Rattle.std.proofs.lemmas.Result.{IfOk-weaker}
use Rattle.tre_star.proofs.Short.{HoldExactly-unbounded}
use Rattle.tre_star.proofs.chains.closure.Goals as goal

pub returns : goal.returns
returns c =
    IfOk-weaker c.closure_up_to.result _ _
    (λ zones held. HoldExactly-unbounded zones _ held)
    c.closure_up_to.ensures
