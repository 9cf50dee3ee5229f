use Rattle.std.proofs.lemmas.Result.{IfOk-weaker}
use Rattle.tre_star.proofs.SetBegins.{leading}
use Rattle.tre_star.proofs.begins.leading_on.Goals as goal

pub returns : goal.returns
returns c =
    IfOk-weaker c.compose_sets.result _ _
    (λ zones held. leading c.args.set.now c.args.other.now c.in_ok-begins.begins zones
    c.zones-set.ensures.set.canonical c.zones-begins.ensures.set.canonical
    c.in_ok-begins.ensures held)
    c.compose_sets.ensures
