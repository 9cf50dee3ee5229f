use Rattle.std.proofs.Common.{◌≢◌, ℕ, ◌-◌, ◌≤◌, ◌<◌}
use Rattle.tre_trace.specs.Planes.{bit_in}
use Rattle.tre_edges.specs.NextPlace.{bit_for}
use Rattle.tre_edges.proofs.next_place.next_place.Given as goal

abbrev pub invariant-loop-at : goal.invariant-loop-at
invariant-loop-at l = record {
  late : l.from ≤ l.at;
  between : (other : ℕ) → l.from ≤ other → other < l.at
      → bit_in l.words other ≢ bit_for l.truth;
}

abbrev pub decreases-loop-at : goal.decreases-loop-at
decreases-loop-at l = l.count - l.at
