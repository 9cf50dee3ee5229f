use Rattle.tre_feed.proofs.Grouping.{readers-none, readers-next, readers-all}
use Rattle.tre_answer.proofs.columns.column_readers.Goals as goal

pub loop-group-init : goal.loop-group-init
loop-group-init c = readers-none _ _ c.new-readers.result.items c.new-readers.ensures.items

pub loop-group-preserved : goal.loop-group-preserved
loop-group-preserved c =
    readers-next _ _ c.args.groups.now c.loop-group.readers.items c.put_last.new.readers.items
    c.loop-group.group-index c.group-item.result c.in_ok-column_reader.field-0
    c.loop-group-test.true c.loop-group.invariant c.group-item.is
    c.in_ok-column_reader.ensures.names
    (c.in_ok-column_reader.ensures.terms, c.in_ok-column_reader.ensures.fresh)
    c.in_ok-put_last.ensures

pub returns-clause-names : goal.returns-clause-names
returns-clause-names c = (readers-all _ _ _ _ _ c.loop-group-test.false c.loop-group.invariant).are

pub returns-clause-fresh : goal.returns-clause-fresh
returns-clause-fresh c = (readers-all _ _ _ _ _ c.loop-group-test.false c.loop-group.invariant).each
