use Rattle.std.proofs.lemmas.Result.{on_ok_weaker}
use Rattle.tre_vcd.proofs.needed.Needed.add.Goals as goal

pub returns-clause-names : goal.returns-clause-names
returns-clause-names c =
    on_ok_weaker c.add_all-2.result (λ _. c.in_ok-add_all.ensures.joins) c.add_all-2.ensures.joins
