-- The parts of runs, and how they stand in time.
use Rattle.std.specs.Prelude.{ℕ, ◌+◌, ◌-◌, ◌*◌, ◌<◌, ◌≤◌, Bool, ◌&&◌, if◌then◌else◌, All, AllPairs, List, map, pos, ◌-ℤ◌, ◌<ℤ◌, neg_ℤ}
use Rattle.tre_pairs.specs.declared.TheConstants.{TIME_MAX}
use Rattle.tre_zone.specs.declared.zone_bounds.ZoneBounds.{ZoneBounds}
use Rattle.tre_edges.specs.declared.run_edges.RunEdges.{RunEdges}
use Rattle.tre_edges.specs.declared.run_sets.Run.{Run}

-- The bounds of the stretches of a run from `begin` to `end` with these ends.
abbrev pub part_of : Bool → Bool → ℕ → ℕ → ZoneBounds
part_of rise fall begin end = record {
  begin_low = pos 1 -ℤ pos (2 * begin);
  begin_high = if rise then pos (2 * begin + 1) else pos (2 * end);
  end_low = if fall then pos 1 -ℤ pos (2 * end) else neg_ℤ (pos (2 * begin));
  end_high = pos (2 * end + 1);
  dur_low = if rise && fall then pos 1 -ℤ pos (2 * (end - begin)) else pos 0;
  dur_high = pos (2 * (end - begin) + 1);
}

-- the zone of one run
abbrev pub zone_of : RunEdges → Run → ZoneBounds
zone_of edges run = part_of edges.rise edges.fall run.begin run.end

-- the zones of runs with these edges
abbrev pub zones_in : RunEdges → List Run → List ZoneBounds
zones_in edges runs = map (zone_of edges) runs

-- Each of the zones begins later than all before it, by the bound on its begin.
abbrev pub BeginLater : List ZoneBounds → Type 0
BeginLater zones = AllPairs (λ zone later. later.begin_low <ℤ zone.begin_low) zones

-- The runs last some time, and each ends before those behind it begin.
pub record AreInTime (runs : List Run) : Type 0 where
  pub bounded : All (λ run. (run.begin < run.end) × (run.end ≤ TIME_MAX)) runs
  pub order : AllPairs (λ run later. run.end < later.begin) runs
