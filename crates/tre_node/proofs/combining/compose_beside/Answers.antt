use Rattle.std.proofs.Common.{◌++◌, ◌∙◌, ap}
use Rattle.std.proofs.lemmas.Result.{on_ok_weaker}
use Rattle.tre_node.proofs.SetsOf.{none_beside}
use Rattle.tre_node.proofs.combining.compose_beside.Goals as goal

pub returns-then-is_one_none : goal.returns-then-is_one_none
returns-then-is_one_none c =
    on_ok_weaker c.put_behind.result
    (λ is. none_beside (is ∙ ap (λ list. list ++ c.args.others.now) c.clear.ensures.items)
    (c.is_one_none.ensures.0 c.if-is_one_none.true)) c.put_behind.ensures
