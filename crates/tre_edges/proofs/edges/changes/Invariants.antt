use Rattle.std.proofs.Common.{◌≡◌, ℕ, ◌-◌, ◌<◌, ◌≤◌, ◌↔◌, ◌⊎◌, length, not, IsSomeAnd}
use Rattle.tre_state.specs.State.{tree_of}
use Rattle.tre_syntax.specs.Rest.{whole}
use Rattle.tre_zone.specs.ZoneList.{SetHolds}
use Rattle.tre_edges.specs.Ends.{EndBefore}
use Rattle.tre_edges.specs.Instants.{AreInstants}
use Rattle.tre_edges.specs.Truth.{HasTruth, ComesTo}
use Rattle.tre_edges.proofs.Places.{time_of}
use Rattle.tre_edges.proofs.EdgesOfTraces.{EdgesFrom, before_at}
use Rattle.tre_edges.proofs.edges.changes.Given as goal

-- The zones hold the edges before the place `at`; before it the state hasn't the other truth.
abbrev pub invariant-loop-at : goal.invariant-loop-at
invariant-loop-at g l =
    let trace = g.T.AnyTrace.timeline l.trace in
    let is = HasTruth l.becomes (tree_of l.state) in
    let is_other = HasTruth (not l.becomes) (tree_of l.state) in
    record {
      exact : (a b n : ℕ) → 0 < n → a ≤ b
          → ComesTo l.becomes (tree_of l.state) (whole trace) a b n
          ↔ (SetHolds l.zones a b n ⊎ EdgesFrom is_other is trace.segments l.at a b n);
      instants : AreInstants 0 l.zones;
      passed : l.seen.place ≤ l.at;
      seen : l.seen.time ≡ time_of trace.segments l.seen.place;
      ended : l.at < length trace.segments → EndBefore (time_of trace.segments l.at) l.zones;
      calm : l.at < length trace.segments → IsSomeAnd (before_at trace.segments l.at) is_other → ⊥;
    }

abbrev pub decreases-loop-at : goal.decreases-loop-at
decreases-loop-at g l = l.count - l.at
