use Rattle.std.proofs.lemmas.Result.{IfOk-weaker}
use Rattle.tests_matching.proofs.forms.followed_by.Goals as goal

pub returns : goal.returns
returns c = IfOk-weaker c.post.result _ _ (λ whole well time first. well time first) c.post.ensures.well
