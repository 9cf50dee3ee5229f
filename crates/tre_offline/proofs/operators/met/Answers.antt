use Rattle.std.proofs.lemmas.Result.{IfOk-weaker}
use Rattle.tre_offline.proofs.Operations.{intersection_exact}
use Rattle.tre_offline.proofs.operators.met.Goals as goal

pub returns : goal.returns
returns c =
    IfOk-weaker c.meet.result _ _
    (λ zones held longest inner left right rest all one other.
    intersection_exact longest inner left right rest c.args.one.now c.args.other.now zones all one
    other held)
    c.meet.ensures
