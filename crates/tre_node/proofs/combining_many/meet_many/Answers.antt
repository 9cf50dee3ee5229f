use Rattle.std.proofs.lemmas.Result.{on_ok_weaker}
use Rattle.tre_pairs.proofs.Agreement.{Agree-Both}
use Rattle.tre_mark.proofs.Agreeing.{agree_then}
use Rattle.tre_node.proofs.Lists.{held_again}
use Rattle.tre_node.proofs.SetsOf.{set_agrees, set_of}
use Rattle.tre_node.proofs.combining_many.meet_many.Goals as goal

pub returns : goal.returns
returns c =
    on_ok_weaker c.put_common.result
    (λ set. set_of (agree_then (set_agrees set)
    (Agree-Both _ _ _ _ (held_again c.in_ok-first.first c.args.one.now c.in_ok-first.ensures)
    (held_again c.in_ok-second.second c.args.other.now c.in_ok-second.ensures))))
    c.put_common.ensures
