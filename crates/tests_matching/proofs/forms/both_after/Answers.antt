use Rattle.std.proofs.lemmas.Result.{IfOk-weaker}
use Rattle.tests_matching.proofs.forms.both_after.Goals as goal

pub returns : goal.returns
returns c =
    IfOk-weaker c.pre.result _ _
    (λ whole built time first second. built.well time (record {
      well = (c.in_ok-both.ensures.well time (record { well = (first.well, second.well) })).well;
    }))
    c.pre.ensures
