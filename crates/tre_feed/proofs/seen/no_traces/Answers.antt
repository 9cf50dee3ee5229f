use Rattle.std.proofs.Common.{[]}
use Rattle.tre_trace.specs.Trace.{quiet}
use Rattle.tre_feed.proofs.Seeing.{mapped-all, mapped-next}
use Rattle.tre_feed.proofs.seen.no_traces.Goals as goal

pub loop-preserved : goal.loop-preserved
loop-preserved c = record {
  empty = mapped-next (λ view. quiet []) c.args.views.now c.loop.index c.loop-item.result
      c.loop.traces.items c.put_last.new.list.items c.new.result c.loop.invariant.empty
      c.loop-test.true c.loop-item.is c.new.ensures.empty c.in_ok-put_last.ensures;
}

pub returns : goal.returns
returns c = mapped-all (λ view. quiet []) c.args.views.now c.loop.index c.loop.traces.items
    c.loop-test.false c.loop.invariant.empty
