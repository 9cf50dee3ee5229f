use Rattle.std.proofs.lemmas.Result.{on_ok_weaker}
use Rattle.tre_node.proofs.Lists.{set_alone, set_moved}
use Rattle.tre_node.proofs.combining.compose_some.Goals as goal

pub returns : goal.returns
returns c =
    on_ok_weaker c.prune.result
    (λ same. set_moved c.prune.new.zones.items c.put_each.new.found.items _ same
    (set_alone c.clear.ensures.items c.in_ok-put_each.ensures)) c.prune.ensures
