use Rattle.std.proofs.lemmas.Result.{IfOk-weaker, IfOk-at_ok}
use Rattle.tre_offline.proofs.Operations.{shortened_exact}
use Rattle.tre_offline.proofs.operators.shortened.Goals as goal

pub returns : goal.returns
returns c =
    IfOk-weaker c.up_to.result _ _
    (λ zones held tree rest exact.
    shortened_exact c.args.longest tree rest c.in_ok-all.all zones
    (IfOk-at_ok _ c.in_ok-all.was exact) held)
    c.up_to.ensures
