use Rattle.tre_strips.proofs.Spinning.{IsSpun-first}
use Rattle.tre_strips.proofs.run.Run.first.Goals as goal

pub returns : goal.returns
returns c = λ zones canonical column.
    rw (c.in_ok-begin.ensures.bars, c.in_ok-begin.ensures.from)
    (IsSpun-first zones c.args.column.now.there.items c.args.column.now.behind.items
    c.args.column.now.time c.args.column.now.until c.begin.new.self.takes_from
    c.begin.new.found.items canonical c.requires.start column.rising column.there column.behind
    (rw c.requires.none at c.in_ok-begin.ensures.begun))
