use Rattle.std.proofs.lemmas.Result.{IfOk-weaker}
use Rattle.tre_strips.proofs.Whole.{IsColumn-same}
use Rattle.tre_strips.proofs.canonical.add_strips.Goals as goal

pub returns : goal.returns
returns c =
    IfOk-weaker c.spin.result _ _
    (λ _ found. λ set canonical same.
    found set canonical same
    (rw (← c.in_ok-next_column.ensures.until)
    (c.in_ok-run.ensures set canonical
    (IsColumn-same set c.args.zones.now c.next_column.new.column same
    c.in_ok-next_column.ensures.column))))
    c.spin.ensures
