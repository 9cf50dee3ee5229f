use Rattle.std.proofs.Common.{rules}
use Rattle.std.proofs.lemmas.List.{length-map}
use Rattle.tre_edges.specs.RunPlaces.{run_at, runs_at, trace_words}
use Rattle.tre_edges.specs.RunsInTime.{zone_of}
use Rattle.tre_edges.proofs.RunSets.{lasts_there, zone_there}
use Rattle.tre_edges.proofs.run_sets.RunSet.zone.Goals as goal

pub run-run-requires : goal.run-run-requires
run-run-requires c =
    search (rules, trace_words, length-map, runs_at, zone_of, run_at, c.args.self.now)

pub part_of_run-requires-clause-rising : goal.part_of_run-requires-clause-rising
part_of_run-requires-clause-rising c =
    let set = c.args.self.now in
    (lasts_there set.edges (runs_at (trace_words set.trace set.words.items) set.places.items)
    c.args.place c.run-run.result c.requires c.run-run.ensures set.placed.timed).0

pub part_of_run-requires-clause-limit : goal.part_of_run-requires-clause-limit
part_of_run-requires-clause-limit c =
    let set = c.args.self.now in
    (lasts_there set.edges (runs_at (trace_words set.trace set.words.items) set.places.items)
    c.args.place c.run-run.result c.requires c.run-run.ensures set.placed.timed).1

pub returns : goal.returns
returns c =
    search (rules, zone_there, runs_at, trace_words, c.args.self.now, c.args.place, c.requires)
