use Rattle.std.proofs.Common.{◌≡◌, ◌++◌, true, false, length, take, refl, ap, sym, subst, rules}
use Rattle.tre_trace.specs.Reading.{Vocabulary, segments_for}
use Rattle.tre_feed.specs.Each.{ReadBy}
use Rattle.tre_feed.proofs.Standing.{asked_again, row_begins, row_more, rows_begin}
use Rattle.tre_feed.proofs.Begun.{none_left}
use Rattle.tre_feed.proofs.each.+finish_each.Goals as goal

pub returns-then-not-finish-clause-front : goal.returns-then-not-finish-clause-front
returns-then-not-finish-clause-front g t c =
    search (
      rules,
      segments_for,
      row_begins,
      rows_begin,
      c.in-Some.ensures.cases.0,
      c.finish.ensures.same,
      c.finish.ensures.takes,
    )

pub returns-clause-rows : goal.returns-clause-rows
returns-clause-rows g t c = λ terms bytes added waiting stand beyond rows ok.
    let cases = c.in-Some.ensures.cases.0 in
    let all = rw cases at stand in
    let are = rw cases at rows in
    let same = ap (λ (asked : ReadBy g.R.TraceReader.Terms). asked.names) c.finish.ensures.same in
    let takes = rw all.0.0 at (c.if-not-finish.ensures.takes bytes all.0.1) in (
      subst (λ (names : Vocabulary). c.finish.new.self.row.items
          ≡ segments_for names (waiting ++ added)) (sym same)
          (row_more _ _ _ _ _ takes.0 waiting added beyond are.0),
      c.finish_each.ensures.rows terms bytes added waiting all.1 beyond are.1 ok,
    )

pub returns-clause-faults : goal.returns-clause-faults
returns-clause-faults g t c = λ terms bytes stand ok.
    let cases = c.in-Some.ensures.cases.0 in
    let all = rw cases at stand in
    let takes = rw all.0.0 at (c.if-not-finish.ensures.takes bytes all.0.1) in
    (takes.1, c.finish_each.ensures.faults terms bytes all.1 ok)

pub returns-clause-front : goal.returns-clause-front
returns-clause-front g t c = λ terms bytes waiting stand rows.
    let cases = c.in-Some.ensures.cases.0 in
    let all = rw cases at stand in
    let are = rw cases at rows in
    let same = ap (λ (asked : ReadBy g.R.TraceReader.Terms). asked.names) c.finish.ensures.same in (
      subst (λ (names : Vocabulary). take (length waiting) c.finish.new.self.row.items
          ≡ segments_for names waiting) (sym same)
          (row_begins _ _ _ _ _ _ _ (c.finish.ensures.takes bytes all.0.1) waiting are.0),
      c.finish_each.ensures.front terms bytes waiting all.1 are.1,
    )

pub returns-then-not-finish-clause-rows : goal.returns-then-not-finish-clause-rows
returns-then-not-finish-clause-rows g t c = λ terms bytes added waiting stand beyond rows ok.
    let wrong : false ≡ true = ok in cc

pub returns-then-not-finish-clause-lasts : goal.returns-then-not-finish-clause-lasts
returns-then-not-finish-clause-lasts g t c = λ terms bytes stand none ok.
    let wrong : false ≡ true = ok in cc

pub returns-then-not-finish-clause-faults : goal.returns-then-not-finish-clause-faults
returns-then-not-finish-clause-faults g t c = λ terms bytes stand ok.
    let wrong : false ≡ true = ok in cc

pub returns-in_default-clause-rows : goal.returns-in_default-clause-rows
returns-in_default-clause-rows g t c =
    λ terms bytes added waiting stand beyond rows ok.
    rw (none_left c.args.each.now c.in_default.ensures.cases) tt

pub returns-in_default-clause-lasts : goal.returns-in_default-clause-lasts
returns-in_default-clause-lasts g t c =
    λ terms bytes stand whole ok.
    rw (none_left c.args.each.now c.in_default.ensures.cases) tt

pub returns-then-not-finish-clause-same : goal.returns-then-not-finish-clause-same
returns-then-not-finish-clause-same g t c =
    asked_again g.R.TraceReader.names g.R.TraceReader.terms
    c.args.each.now c.in-Some.later.now c.in-Some.later.now c.in-Some.first.now c.finish.new.self
    c.in-Some.ensures.cases.0 c.finish.ensures.same refl

pub returns-clause-same : goal.returns-clause-same
returns-clause-same g t c =
    asked_again g.R.TraceReader.names g.R.TraceReader.terms
    c.args.each.now c.finish_each.new.each c.in-Some.later.now c.in-Some.first.now c.finish.new.self
    c.in-Some.ensures.cases.0 c.finish.ensures.same c.finish_each.ensures.same

pub returns-clause-lasts : goal.returns-clause-lasts
returns-clause-lasts g t c =
    search (rules, c.in-Some.ensures.cases.0, c.finish.ensures.same, c.if-not-finish.ensures.last)
