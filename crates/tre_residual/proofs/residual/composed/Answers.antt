use Rattle.std.proofs.lemmas.Result.{IfOk-weaker}
use Rattle.tre_zone.proofs.HeldSets.{composed_set}
use Rattle.tre_residual.proofs.residual.composed.Goals as goal

pub returns : goal.returns
returns c =
    IfOk-weaker c.compose_sets.result _ _
    (λ zones held. record {
      pairs = (composed_set c.args.first.now c.args.second.now zones
          c.zones-first.ensures.set.canonical c.zones-second.ensures.set.canonical held).pairs;
    })
    c.compose_sets.ensures
