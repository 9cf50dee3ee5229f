use Rattle.std.proofs.lemmas.Result.{IfOk-weaker}
use Rattle.tre_residual.proofs.residual.Residual.post.Goals as goal

pub returns-clause-well : goal.returns-clause-well
returns-clause-well c =
    IfOk-weaker c.followed_by.result _ _
    (λ whole built time h. built.well time (record { well = (h.well, c.requires.numbers) }))
    c.followed_by.ensures
