use Rattle.std.proofs.Common.{arith}
use Rattle.tre_feed.proofs.Sharing.{on_ok_so}
use Rattle.tre_feed.proofs.shares.view_alone.Goals as goal

pub returns-clause-view : goal.returns-clause-view
returns-clause-view c =
    rw (c.in_ok-put_last.ensures, c.in_ok-of.ensures) (c.own.ensures c.args.groups.now.items
    (omega (arith, c.len-number.ensures, c.args.groups.now.ok.0)))

pub returns-clause-groups : goal.returns-clause-groups
returns-clause-groups c =
    on_ok_so c.own.result (rw (← c.in_ok-of.ensures) c.in_ok-put_last.ensures)
