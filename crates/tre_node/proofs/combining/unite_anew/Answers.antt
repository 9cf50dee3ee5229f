use Rattle.std.proofs.lemmas.Result.{on_ok_weaker}
use Rattle.tre_node.proofs.Lists.{exact_same, two_lists}
use Rattle.tre_node.proofs.combining.unite_anew.Goals as goal

pub returns-then-is_one_none : goal.returns-then-is_one_none
returns-then-is_one_none c =
    two_lists c.clear.new.self.items c.args.one.now c.put_behind.new.found.items c.args.other.now
    c.put_behind-2.new.found.items c.put_behind-2.new.found.items c.clear.ensures.items
    c.in_ok-put_behind.ensures c.in_ok-put_behind-2.ensures (exact_same _)

pub returns : goal.returns
returns c =
    on_ok_weaker c.prune.result
    (two_lists c.clear.new.self.items c.args.one.now c.put_behind.new.found.items c.args.other.now
    c.put_behind-2.new.found.items c.prune.new.zones.items c.clear.ensures.items
    c.in_ok-put_behind.ensures c.in_ok-put_behind-2.ensures) c.prune.ensures
