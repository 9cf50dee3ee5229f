use Rattle.std.proofs.lemmas.Result.{on_ok_weaker}
use Rattle.tre_node.proofs.Lists.{behind_each}
use Rattle.tre_node.proofs.vectors.put_each.Goals as goal

pub returns : goal.returns
returns c =
    on_ok_weaker c.gather_each.result
    (behind_each c.args.found.now.items c.gather_each.new.found.items c.args.first.now
    c.args.second.now c.known.ensures c.known-2.ensures) c.gather_each.ensures
