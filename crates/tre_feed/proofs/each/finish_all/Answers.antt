use Rattle.std.proofs.Common.{true, refl, sym}
use Rattle.tre_feed.proofs.Standing.{by_terms, grows_closed, on_ok_told, takes_told}
use Rattle.tre_feed.proofs.each.finish_all.Goals as goal

pub returns-then-not-finish_each-clause-takes : goal.returns-then-not-finish_each-clause-takes
returns-then-not-finish_each-clause-takes g c = λ bytes were. record {
  same = λ waiting wait. record {
    rows = c.cut_each.ensures.rows waiting
        (sym (c.waiting_in-waiting.ensures waiting wait.rows))
        (c.finish_each.ensures.front were.all bytes waiting were.stand wait.rows);
  };
}

pub returns-clause-takes : goal.returns-clause-takes
returns-clause-takes g c = λ bytes were.
    let reader = g.R.TraceReader in
    let by = by_terms reader.terms reader.recording reader.represents c.args.each.now bytes
    were.all c.requires.some were.stand in
    let told = c.told_by.ensures.told (reader.recording were.all true bytes)
    (c.if-not-finish_each.ensures.faults were.all bytes were.stand refl) in
    let grown = grows_closed (reader.recording were.all) (g.met.R.TraceReader.grows were.all)
    bytes in
    rw by (takes_told _ _ _ _ _ (record {
      added = grown.added;
      beyond = grown.stretches;
      then = λ waiting wait. record {
        rows = c.if-not-finish_each.ensures.rows were.all bytes grown.added waiting were.stand
            grown.stretches wait.rows refl;
      };
    }) told)

pub returns-clause-ended : goal.returns-clause-ended
returns-clause-ended g c = λ bytes were.
    let reader = g.R.TraceReader in
    let by = by_terms reader.terms reader.recording reader.represents c.args.each.now bytes
    were.all c.requires.some were.stand in
    let now = reader.recording were.all true bytes in
    rw by (on_ok_told now _ _ (c.told_by.ensures.told now
    (c.if-not-finish_each.ensures.faults were.all bytes were.stand refl)) (λ none. record {
      lasts = c.if-not-finish_each.ensures.lasts were.all bytes were.stand none refl;
    }))
