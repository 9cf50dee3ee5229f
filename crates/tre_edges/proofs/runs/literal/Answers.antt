use Rattle.std.proofs.Common.{None}
use Rattle.tre_state.specs.State.{tree_of}
use Rattle.tre_syntax.specs.Rest.{whole}
use Rattle.tre_edges.specs.RunParts.{LastsIn, anywhere}
use Rattle.tre_edges.proofs.PartsOfRuns.{literal_given}
use Rattle.tre_edges.proofs.RunLists.{AreRuns-empty}
use Rattle.tre_edges.proofs.runs.literal.Goals as goal

pub each_run-requires-clause-stands : goal.each_run-requires-clause-stands
each_run-requires-clause-stands g c = rw c.in_ok-zones.ensures (AreRuns-empty 0)

pub returns-clause-matches : goal.returns-clause-matches
returns-clause-matches g c =
    let state = tree_of c.args.state.now in
    let held = literal_given anywhere (λ r. absurd cc) (λ f. absurd cc) (LastsIn None) state
    (whole (g.T.AnyTrace.timeline c.args.trace.now)) _
    (c.in_ok-each_run.ensures.held state (rw c.deref-2.ensures.value c.in_ok-words.ensures)) in
    record {
      exact = λ a b n some le.
          let one = held.exact a b n some le in
          ((λ h. (one.0 h).related), (λ h. one.1 (record { related = h; admitted = tt })));
    }

pub each_run-requires-clause-size : goal.each_run-requires-clause-size
each_run-requires-clause-size g c = rw c.deref-2.ensures.value c.in_ok-words.ensures.size

pub returns-clause-runs : goal.returns-clause-runs
returns-clause-runs g c = c.in_ok-each_run.ensures.stands
