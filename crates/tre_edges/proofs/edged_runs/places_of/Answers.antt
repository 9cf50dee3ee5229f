use Rattle.std.proofs.Common.{◌∙◌}
use Rattle.std.proofs.lemmas.Option.{same_Some}
use Rattle.tre_edges.specs.RunPlaces.{trace_words}
use Rattle.tre_edges.proofs.edged_runs.places_of.Goals as goal

pub returns-clause-placed : goal.returns-clause-placed
returns-clause-placed c =
    let old = c.in_ok-keeper.keeper in
    let new = c.each_run.new.keeper in
    let told = c.in_ok-keeper.ensures in
    let same = same_Some (trace_words new.trace.now new.words.now)
    (trace_words old.trace.now old.words.now) c.in_ok-each_run.ensures.runs_of in
    rw (same, told.trace, told.words) at new.placed

pub returns-clause-held : goal.returns-clause-held
returns-clause-held c = λ state truth.
    let old = c.in_ok-keeper.keeper in
    let new = c.each_run.new.keeper in
    let told = c.in_ok-keeper.ensures in
    let same = same_Some (trace_words new.trace.now new.words.now)
    (trace_words old.trace.now old.words.now) c.in_ok-each_run.ensures.runs_of in
    let held = c.in_ok-each_run.ensures.held state truth in
    let edges = c.in_ok-each_run.ensures.edges ∙ told.edges in
    let all = rw (same, told.trace, told.words, told.edges, edges) at held in
    record {
      exact = λ a b n some le.
          let one = all.exact a b n some le in
          ((λ h. (one.0 h).related), (λ h. one.1 (record { related = h; admitted = tt })));
    }
