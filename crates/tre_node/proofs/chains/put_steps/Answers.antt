use Rattle.std.proofs.Common.{◌∷◌, []}
use Rattle.std.proofs.lemmas.Result.{on_ok_weaker}
use Rattle.tre_zone.specs.Held.{Held}
use Rattle.tre_mark.proofs.Agreeing.{agree_either, agree_refl, agree_then}
use Rattle.tre_node.proofs.Chaining.{over_chains, instants_alike}
use Rattle.tre_node.proofs.Lists.{two_lists}
use Rattle.tre_node.proofs.SetsOf.{set_agrees, set_of}
use Rattle.tre_node.proofs.chains.put_steps.Goals as goal

pub returns : goal.returns
returns c =
    let begin = c.args.from in
    let end = c.args.to in
    let steps = c.args.steps.now in
    on_ok_weaker c.prune.result
    (λ same. set_of (agree_then
    (set_agrees (two_lists c.clear.new.self.items steps c.put_behind.new.found.items
    (c.instants.result ∷ []) c.push.new.self.items c.prune.new.zones.items c.clear.ensures.items
    c.in_ok-put_behind.ensures c.in_ok-push.ensures.items same))
    (agree_then (agree_either (agree_refl (Held steps))
    (instants_alike begin end c.instants.result c.instants.ensures.held))
    (over_chains begin end steps c.requires.over c.requires.between)))) c.prune.ensures
