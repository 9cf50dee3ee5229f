use Rattle.std.proofs.lemmas.Result.{on_ok_weaker}
use Rattle.tre_mark.proofs.Agreeing.{agree_composed, agree_then}
use Rattle.tre_node.proofs.Lists.{held_again}
use Rattle.tre_node.proofs.SetsOf.{set_agrees, set_of}
use Rattle.tre_node.proofs.combining_many.compose_many.Goals as goal

pub returns : goal.returns
returns c =
    on_ok_weaker c.put_composed.result
    (λ set. set_of (agree_then (set_agrees set)
    (agree_composed (held_again c.in_ok-one.one c.args.first.now c.in_ok-one.ensures)
    (held_again c.in_ok-other.other c.args.second.now c.in_ok-other.ensures))))
    c.put_composed.ensures
