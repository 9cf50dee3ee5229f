use Rattle.std.proofs.Common.{◌≡◌, ◌++◌, true, false, length, take, refl, ap, sym, subst, rules}
use Rattle.tre_trace.specs.Reading.{Vocabulary, segments_for}
use Rattle.tre_feed.specs.Each.{ReadBy}
use Rattle.tre_feed.proofs.Standing.{asked_again, row_begins, row_more, rows_begin}
use Rattle.tre_feed.proofs.Begun.{none_left}
use Rattle.tre_feed.proofs.each.+feed_each.Goals as goal

pub returns-then-not-feed-clause-front : goal.returns-then-not-feed-clause-front
returns-then-not-feed-clause-front g t c =
    search (
      rules,
      segments_for,
      row_begins,
      rows_begin,
      c.in-Some.ensures.cases.0,
      c.feed.ensures.same,
      c.feed.ensures.takes,
    )

pub returns-clause-rows : goal.returns-clause-rows
returns-clause-rows g t c = λ terms bytes added waiting stand beyond rows ok.
    let cases = c.in-Some.ensures.cases.0 in
    let all = rw cases at stand in
    let are = rw cases at rows in
    let same = ap (λ (asked : ReadBy g.R.TraceReader.Terms). asked.names) c.feed.ensures.same in
    let takes = rw all.0.0 at (c.if-not-feed.ensures.takes bytes all.0.1) in (
      subst (λ (names : Vocabulary). c.feed.new.self.row.items
          ≡ segments_for names (waiting ++ added)) (sym same)
          (row_more _ _ _ _ _ takes.0 waiting added beyond are.0),
      c.feed_each.ensures.rows terms bytes added waiting all.1 beyond are.1 ok,
    )

pub returns-clause-faults : goal.returns-clause-faults
returns-clause-faults g t c = λ terms bytes stand ok.
    let cases = c.in-Some.ensures.cases.0 in
    let all = rw cases at stand in
    let takes = rw all.0.0 at (c.if-not-feed.ensures.takes bytes all.0.1) in
    (takes.1, c.feed_each.ensures.faults terms bytes all.1 ok)

pub returns-clause-front : goal.returns-clause-front
returns-clause-front g t c = λ terms bytes waiting stand rows.
    let cases = c.in-Some.ensures.cases.0 in
    let all = rw cases at stand in
    let are = rw cases at rows in
    let same = ap (λ (asked : ReadBy g.R.TraceReader.Terms). asked.names) c.feed.ensures.same in (
      subst (λ (names : Vocabulary). take (length waiting) c.feed.new.self.row.items
          ≡ segments_for names waiting) (sym same)
          (row_begins _ _ _ _ _ _ _ (c.feed.ensures.takes bytes all.0.1) waiting are.0),
      c.feed_each.ensures.front terms bytes waiting all.1 are.1,
    )

pub returns-then-not-feed-clause-rows : goal.returns-then-not-feed-clause-rows
returns-then-not-feed-clause-rows g t c = λ terms bytes added waiting stand beyond rows ok.
    let wrong : false ≡ true = ok in cc

pub returns-then-not-feed-clause-goes_on : goal.returns-then-not-feed-clause-goes_on
returns-then-not-feed-clause-goes_on g t c = λ terms bytes stand none ok.
    let wrong : false ≡ true = ok in cc

pub returns-then-not-feed-clause-faults : goal.returns-then-not-feed-clause-faults
returns-then-not-feed-clause-faults g t c = λ terms bytes stand ok.
    let wrong : false ≡ true = ok in cc

pub returns-clause-goes_on : goal.returns-clause-goes_on
returns-clause-goes_on g t c =
    search (rules, c.in-Some.ensures.cases.0, c.feed.ensures.same, c.if-not-feed.ensures.goes_on)

pub returns-in_default-clause-rows : goal.returns-in_default-clause-rows
returns-in_default-clause-rows g t c =
    λ terms bytes added waiting stand beyond rows ok.
    rw (none_left c.args.each.now c.in_default.ensures.cases) tt

pub returns-then-not-feed-clause-same : goal.returns-then-not-feed-clause-same
returns-then-not-feed-clause-same g t c =
    asked_again g.R.TraceReader.names g.R.TraceReader.terms
    c.args.each.now c.in-Some.later.now c.in-Some.later.now c.in-Some.first.now c.feed.new.self
    c.in-Some.ensures.cases.0 c.feed.ensures.same refl

pub returns-clause-same : goal.returns-clause-same
returns-clause-same g t c =
    asked_again g.R.TraceReader.names g.R.TraceReader.terms
    c.args.each.now c.feed_each.new.each c.in-Some.later.now c.in-Some.first.now c.feed.new.self
    c.in-Some.ensures.cases.0 c.feed.ensures.same c.feed_each.ensures.same

pub feed-requires : goal.feed-requires
feed-requires g t c = record { room = (rw c.in-Some.ensures.cases.0 at c.requires.room).0 }
