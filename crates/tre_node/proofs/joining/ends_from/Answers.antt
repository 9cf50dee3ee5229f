use Rattle.tre_node.proofs.Joins.{from_tick, before_tick}
use Rattle.tre_node.proofs.joining.ends_from.Goals as goal

pub returns-then-time-latest_end : goal.returns-then-time-latest_end
returns-then-time-latest_end c =
    from_tick c.args.time c.latest_end.result c.args.zone.now c.latest_end.ensures
    c.if-time-latest_end.true

pub returns : goal.returns
returns c =
    before_tick c.args.time c.latest_end.result c.args.zone.now c.latest_end.ensures
    c.if-time-latest_end.false
