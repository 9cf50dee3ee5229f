use Rattle.std.proofs.Common.{sym, rules}
use Rattle.tre_packed.proofs.Adding.{count-limit}
use Rattle.tre_edges.specs.RunPlaces.{trace_words}
use Rattle.tre_edges.proofs.RunPlaces.{run_there}
use Rattle.tre_edges.proofs.run_sets.RunSet.run.Goals as goal

pub next_place-end-requires-clause-limit : goal.next_place-end-requires-clause-limit
next_place-end-requires-clause-limit c = search (rules, count-limit, c.args.self.now.trace.segments)

pub returns : goal.returns
returns c = λ other.
    let set = c.args.self.now in
    let next = rw (c.deref.ensures.value, c.count.ensures.count) at c.next_place-end.ensures in
    rw (c.start_from-from.ensures.time, c.start_from-to.ensures.time)
    (sym (run_there (trace_words set.trace set.words.items) set.places.items c.args.place
    c.index.result.now c.next_place-end.result other c.requires set.placed c.index.ensures next))
