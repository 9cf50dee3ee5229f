use Rattle.std.proofs.Common.{◌≡◌, arith, length}
use Rattle.std.proofs.lemmas.List.{with_items_is}
use Rattle.std.proofs.lemmas.Result.{on_ok_weaker}
use Rattle.tre_online.specs.Giving.{SessionCloses}
use Rattle.tre_online.proofs.Watching.{tell_last_each, trees_next}
use Rattle.tre_online.proofs.watch.Watch.close.Goals as goal

pub returns-clause-tells : goal.returns-clause-tells
returns-clause-tells c traces watches =
    let sessions = c.args.self.now.sessions in
    let news = c.close_each.new.sessions in
    let same : length news ≡ sessions.len =
    omega (arith, c.close_each.auto.sessions, c.deref_mut.ensures.len) in
    rw (with_items_is sessions news same) (on_ok_weaker c.close_each.result
    (λ close. tell_last_each sessions.items c.args.events.now news traces close watches.each)
    (rw c.deref_mut.ensures.value at c.close_each.ensures))

pub returns-clause-trees : goal.returns-clause-trees
returns-clause-trees c =
    let sessions = c.args.self.now.sessions in
    let news = c.close_each.new.sessions in
    let same : length news ≡ sessions.len =
    omega (arith, c.close_each.auto.sessions, c.deref_mut.ensures.len) in
    rw (with_items_is sessions news same) (on_ok_weaker c.close_each.result
    (trees_next SessionCloses (λ old events new close. close.tree) sessions.items
    c.args.events.now news)
    (rw c.deref_mut.ensures.value at c.close_each.ensures))
