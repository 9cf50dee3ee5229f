use Rattle.std.proofs.lemmas.Result.{IfOk-weaker}
use Rattle.tre_star.proofs.Short.{HoldExactly-unbounded}
use Rattle.tre_offline.proofs.beginning.begun.Goals as goal

pub returns : goal.returns
returns g c =
    IfOk-weaker c.begun_of.result _ _
    (λ zones held. HoldExactly-unbounded zones _ (rw c.expr.ensures.tree at held))
    c.begun_of.ensures
