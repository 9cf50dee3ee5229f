-- Sets of the parts of runs, each seen as the list of its zones.
use Rattle.std.specs.Prelude.{List}
use Rattle.tre_zone.specs.declared.zone_bounds.ZoneBounds.{ZoneBounds}
use Rattle.tre_edges.specs.RunPlaces.{trace_words, runs_at}
use Rattle.tre_edges.specs.RunsInTime.{zones_in}
use Rattle.tre_edges.specs.declared.run_sets.RunSet.{RunSet}
use Rattle.tre_edges.specs.declared.run_sets.PlaceKeeper.{PlaceKeeper}

abbrev pub zones_of : RunSet → List ZoneBounds
zones_of set =
    zones_in set.edges (runs_at (trace_words set.trace set.words.items) set.places.items)

-- the zones of what was kept
abbrev pub zones_kept : PlaceKeeper → List ZoneBounds
zones_kept keeper =
    zones_in keeper.edges
    (runs_at (trace_words keeper.trace.now keeper.words.now) keeper.places.items)
