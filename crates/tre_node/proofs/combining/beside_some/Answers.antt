use Rattle.std.proofs.lemmas.Result.{on_ok_weaker}
use Rattle.tre_mark.proofs.Agreeing.{agree_either, agree_refl, agree_then}
use Rattle.tre_node.proofs.Lists.{put_after, set_alone, set_moved}
use Rattle.tre_node.proofs.SetsOf.{set_agrees, set_of}
use Rattle.tre_node.proofs.combining.beside_some.Goals as goal

pub returns : goal.returns
returns c =
    on_ok_weaker c.prune.result
    (λ same. set_moved c.prune.new.zones.items c.put_each.new.found.items _ same
    (set_of (agree_then (set_agrees c.in_ok-put_each.ensures)
    (agree_either (set_agrees (set_alone c.clear.ensures.items
    (put_after c.clear.new.self.items c.args.others.now c.put_behind.new.found.items
    c.in_ok-put_behind.ensures))) (agree_refl _))))) c.prune.ensures
