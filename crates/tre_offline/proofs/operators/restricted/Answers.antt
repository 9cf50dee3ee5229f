use Rattle.std.proofs.lemmas.Result.{IfOk-weaker, IfOk-at_ok}
use Rattle.tre_offline.proofs.Operations.{restriction_exact}
use Rattle.tre_offline.proofs.operators.restricted.Goals as goal

pub returns : goal.returns
returns c =
    IfOk-weaker c.into_within.result _ _
    (λ zones held inner longest tree rest same exact.
    restriction_exact inner longest tree c.args.interval.now rest c.in_ok-all.all zones same
    (IfOk-at_ok _ c.in_ok-all.was exact) held)
    c.into_within.ensures
