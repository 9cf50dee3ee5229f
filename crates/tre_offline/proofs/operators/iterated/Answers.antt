use Rattle.std.proofs.lemmas.Result.{IfOk-weaker, IfOk-at_ok}
use Rattle.tre_offline.proofs.Operations.{iteration_found}
use Rattle.tre_offline.proofs.operators.iterated.Goals as goal

pub returns : goal.returns
returns c =
    IfOk-weaker c.iteration_up_to.result _ _
    (λ zones held tree rest begins ends inner.
    iteration_found c.args.longest tree rest c.in_ok-step.step zones
    (IfOk-at_ok _ c.in_ok-step.was inner) c.args.begin c.args.end begins ends
    c.zones-step.ensures.set held)
    c.iteration_up_to.ensures
