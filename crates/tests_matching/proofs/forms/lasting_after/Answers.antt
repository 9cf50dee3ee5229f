use Rattle.std.proofs.lemmas.Result.{IfOk-weaker}
use Rattle.tests_matching.proofs.forms.lasting_after.Goals as goal

pub returns : goal.returns
returns c =
    IfOk-weaker c.pre.result _ _
    (λ whole built time inner. built.well time (record {
      well = (c.in_ok-lasting.ensures.well time (record { well = inner.well })).well;
    }))
    c.pre.ensures
