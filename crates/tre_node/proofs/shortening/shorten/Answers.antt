use Rattle.tre_node.proofs.Shortened.{shortened_none, shortened_some}
use Rattle.tre_node.proofs.shortening.shorten.Goals as goal

pub returns-then-are_short : goal.returns-then-are_short
returns-then-are_short c = shortened_none c.args.longest c.args.zones.now.items

pub returns : goal.returns
returns c =
    rw c.swap.ensures.x_after
    (shortened_some c.args.longest c.args.zones.now.items c.clear.new.self.items
    c.gather_short.new.found.items c.clear.ensures.items
    (rw c.deref-2.ensures.value at c.in_ok-gather_short.ensures))
