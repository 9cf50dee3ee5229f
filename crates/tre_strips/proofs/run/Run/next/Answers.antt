use Rattle.std.proofs.Common.{refl, true≢false, sym}
use Rattle.tre_strips.proofs.Spinning.{IsSpun-on, IsSpun-next}
use Rattle.tre_strips.proofs.run.Run.next.Goals as goal

pub returns-then-goes_on : goal.returns-then-goes_on
returns-then-goes_on c = λ zones canonical column spun.
    IsSpun-on zones c.args.self.now.bars.items c.args.column.now.there.items
    c.args.column.now.behind.items c.args.self.now.from c.args.column.now.time
    c.args.column.now.until c.args.self.now.takes_from c.args.found.now.items column.rising
    column.there column.behind (c.if-goes_on.ensures.0 refl) spun

pub returns : goal.returns
returns c = λ zones canonical column spun.
    rw (c.in_ok-begin.ensures.bars, c.in_ok-begin.ensures.from)
    (IsSpun-next zones canonical c.args.self.now.bars.items c.args.column.now.there.items
    c.args.column.now.behind.items c.args.self.now.from c.args.column.now.time
    c.args.column.now.until c.args.self.now.takes_from c.in_ok-taken.taken
    c.begin.new.self.takes_from c.args.found.now.items c.close.new.found.items
    c.begin.new.found.items column.rising column.there column.behind
    (λ goes. true≢false (sym (c.if-goes_on.ensures.1 goes)))
    c.in_ok-taken.ensures c.in_ok-begin.ensures.begun spun)
