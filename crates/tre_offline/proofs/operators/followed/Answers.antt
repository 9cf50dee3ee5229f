use Rattle.std.proofs.lemmas.Result.{IfOk-weaker, IfOk-at_ok}
use Rattle.tre_offline.proofs.Operations.{sequence_exact}
use Rattle.tre_offline.proofs.operators.followed.Goals as goal

pub returns : goal.returns
returns c =
    IfOk-weaker c.compose_sets_up_to.result _ _
    (λ zones held left right rest one other.
    sequence_exact c.args.longest left right rest c.args.first.now c.in_ok-second.second zones one
    (IfOk-at_ok _ c.in_ok-second.was other) c.zones-first.ensures.set c.zones-second.ensures.set
    held)
    c.compose_sets_up_to.ensures
