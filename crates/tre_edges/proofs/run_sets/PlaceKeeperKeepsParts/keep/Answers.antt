use Rattle.std.proofs.Common.{rules}
use Rattle.tre_edges.specs.RunPlaces.{trace_words}
use Rattle.tre_edges.proofs.RunPlaces.{AreRunPlaces-pushed, place_ended, place_held}
use Rattle.tre_edges.proofs.run_sets.PlaceKeeperKeepsParts.keep.Goals as goal

pub invariant_of-self-clause-placed : goal.invariant_of-self-clause-placed
invariant_of-self-clause-placed c =
    let keeper = c.args.self.now in
    AreRunPlaces-pushed keeper.edges (trace_words keeper.trace.now keeper.words.now)
    keeper.places.items c.args.from c.args._to keeper.placed c.requires.ended c.requires.rising
    c.requires.limit c.requires.run c.push.result _ c.push.ensures.items

pub returns-clause-held : goal.returns-clause-held
returns-clause-held c =
    search (rules, place_held, trace_words, c.args.self.now, c.args.from, c.args._to)

pub returns-clause-ended : goal.returns-clause-ended
returns-clause-ended c =
    search (rules, place_ended, trace_words, c.args.self.now, c.args.from, c.args._to)
