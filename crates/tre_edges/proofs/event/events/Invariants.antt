use Rattle.std.proofs.Common.{◌≡◌, ℕ, ◌-◌, ◌<◌, ◌≤◌, ◌↔◌, ◌⊎◌, length}
use Rattle.tre_syntax.specs.Rest.{whole, EventMatches}
use Rattle.tre_trace.specs.Planes.{bit_in}
use Rattle.tre_zone.specs.ZoneList.{SetHolds}
use Rattle.tre_edges.specs.Ends.{EndBefore}
use Rattle.tre_edges.specs.Instants.{AreInstants}
use Rattle.tre_edges.proofs.EventsOfTraces.{EventsFrom}
use Rattle.tre_edges.proofs.Places.{time_of}
use Rattle.tre_edges.proofs.event.events.Given as goal

-- The zones hold the events before the place `at`, at which the next one happens.
abbrev pub invariant-loop-at : goal.invariant-loop-at
invariant-loop-at g l =
    let trace = g.T.AnyTrace.timeline l.trace in
    record {
      exact : (a b n : ℕ) → 0 < n → a ≤ b → EventMatches l.number (whole trace) a b n
          ↔ (SetHolds l.zones a b n ⊎ EventsFrom l.number trace.last trace.segments l.at a b n);
      instants : AreInstants 0 l.zones;
      within : l.at ≤ length trace.segments;
      there : l.at < length trace.segments → bit_in l.words.items l.at ≡ 1;
      passed : l.seen.place ≤ l.at;
      seen : l.seen.time ≡ time_of trace.segments l.seen.place;
      ended : EndBefore (time_of trace.segments l.at) l.zones;
    }

abbrev pub decreases-loop-at : goal.decreases-loop-at
decreases-loop-at g l = l.count - l.at
