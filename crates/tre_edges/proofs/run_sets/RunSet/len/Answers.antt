use Rattle.tre_zone.proofs.ZoneListLemmas.{AreCanonical-tight}
use Rattle.tre_edges.specs.RunPlaces.{runs_at, trace_words}
use Rattle.tre_edges.specs.RunSets.{zones_of}
use Rattle.tre_edges.proofs.RunSets.{are_set, later}
use Rattle.tre_edges.proofs.run_sets.RunSet.len.Goals as goal

pub returns-clause-set : goal.returns-clause-set
returns-clause-set c =
    let set = c.args.self.now in
    are_set set.edges (runs_at (trace_words set.trace set.words.items) set.places.items)
    set.placed.timed

pub returns-clause-tight : goal.returns-clause-tight
returns-clause-tight c =
    AreCanonical-tight (zones_of c.args.self.now) (returns-clause-set c).canonical

pub returns-clause-order : goal.returns-clause-order
returns-clause-order c =
    let set = c.args.self.now in
    later set.edges (runs_at (trace_words set.trace set.words.items) set.places.items)
    set.placed.timed
