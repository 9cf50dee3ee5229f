use Rattle.std.proofs.Common.{◌≡◌, ℕ, ◌-◌, ◌<◌, ◌≤◌, ◌↔◌, ◌⊎◌, length}
use Rattle.tre_pairs.specs.Pairs.{Lasting}
use Rattle.tre_state.specs.StateTree.{StateTree}
use Rattle.tre_syntax.specs.Rest.{whole}
use Rattle.tre_zone.specs.ZoneList.{SetHolds}
use Rattle.tre_edges.specs.Ends.{EndBefore}
use Rattle.tre_edges.specs.RunParts.{IsRunPart, LastsIn}
use Rattle.tre_edges.specs.StateWords.{AreTruthOf}
use Rattle.tre_edges.proofs.NextParts.{PartFrom, IsCalmAt}
use Rattle.tre_edges.proofs.Places.{time_of}
use Rattle.tre_edges.proofs.each_run.each_run.Given as goal

-- What is kept are those stretches that have ended before the place `at`, and no state of which the
-- words are the truth holds just before it.
abbrev pub invariant-loop-at : goal.invariant-loop-at
invariant-loop-at g l =
    let trace = g.T.AnyTrace.timeline l.trace in
    let kept = g.K.KeepsParts.kept l.keeper in
    let interval = g.K.KeepsParts.interval l.initial.keeper in
    record {
      exact : (state : StateTree) → AreTruthOf state trace.segments l.words → (a b n : ℕ)
          → 0 < n → a ≤ b
          → Lasting (LastsIn interval) (IsRunPart l.edges state (whole trace)) a b n
          ↔ (SetHolds kept a b n
          ⊎ Lasting (LastsIn interval) (PartFrom l.edges state trace l.at) a b n);
      passed : l.seen.place ≤ l.at;
      seen : l.seen.time ≡ time_of trace.segments l.seen.place;
      ended : l.at < length trace.segments → EndBefore (time_of trace.segments l.at) kept;
      calm : (state : StateTree) → AreTruthOf state trace.segments l.words
          → l.at < length trace.segments → IsCalmAt state trace.segments l.at;
      edges : g.K.KeepsParts.edges l.keeper ≡ l.edges;
      interval : g.K.KeepsParts.interval l.keeper ≡ interval;
      runs_of : g.K.KeepsParts.runs_of l.keeper ≡ g.K.KeepsParts.runs_of l.initial.keeper;
      stands : g.K.KeepsParts.stands l.keeper;
    }

abbrev pub decreases-loop-at : goal.decreases-loop-at
decreases-loop-at g l = l.count - l.at
