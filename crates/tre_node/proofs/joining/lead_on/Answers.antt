use Rattle.tre_node.proofs.Joins.{keeps_again, keeps_united}
use Rattle.tre_node.proofs.joining.lead_on.Goals as goal

pub returns-then-len-most : goal.returns-then-len-most
returns-then-len-most c =
    keeps_again c.args.reach c.args.time c.args.outer.now.items _ c.put_early.new.outer.items
    c.put_again.new.outer.items c.in_ok-put_early.ensures c.in_ok-put_again.ensures

pub returns : goal.returns
returns c =
    keeps_united c.args.reach c.args.time c.args.outer.now.items _ c.put_again.new.outer.items
    c.unite.new.zones.items c.keep_in_reach.new.outer.items
    (keeps_again c.args.reach c.args.time c.args.outer.now.items _ c.put_early.new.outer.items
    c.put_again.new.outer.items c.in_ok-put_early.ensures c.in_ok-put_again.ensures)
    c.in_ok-unite.ensures c.keep_in_reach.ensures
