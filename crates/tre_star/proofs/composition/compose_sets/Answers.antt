use Rattle.std.proofs.lemmas.Result.{IfOk-weaker}
use Rattle.tre_star.proofs.Short.{HoldExactly-unbounded}
use Rattle.tre_star.proofs.composition.compose_sets.Goals as goal

pub returns : goal.returns
returns c =
    IfOk-weaker c.compose_sets_up_to.result _ _
    (λ zones held. HoldExactly-unbounded zones _ held)
    c.compose_sets_up_to.ensures
