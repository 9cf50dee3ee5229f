use Rattle.std.proofs.Common.{refl}
use Rattle.tre_feed.proofs.Begun.{none_left}
use Rattle.tre_feed.proofs.Standing.{asked_again}
use Rattle.tre_feed.proofs.each.+clear_each.Goals as goal

pub returns-clause-fed : goal.returns-clause-fed
returns-clause-fed g t c = λ terms bytes stand.
    let cases = c.in-Some.ensures.cases.0 in
    let all = rw cases at stand in
    (all.0, c.clear_each.ensures.fed terms bytes all.1)

pub returns-clause-lasts : goal.returns-clause-lasts
returns-clause-lasts g t c = λ last told.
    let cases = c.in-Some.ensures.cases.0 in
    let all = rw cases at told in
    (all.0, c.clear_each.ensures.lasts last all.1)

pub returns-in_default-clause-none : goal.returns-in_default-clause-none
returns-in_default-clause-none g t c =
    rw (none_left c.args.each.now c.in_default.ensures.cases) tt

pub returns-clause-none : goal.returns-clause-none
returns-clause-none g t c = (c.clear.ensures.items, c.clear_each.ensures.none)

pub returns-clause-same : goal.returns-clause-same
returns-clause-same g t c =
    asked_again g.R.TraceReader.names g.R.TraceReader.terms
    c.args.each.now c.clear_each.new.each c.in-Some.later.now c.in-Some.first.now
    c.in-Some.first.now
    c.in-Some.ensures.cases.0 refl c.clear_each.ensures.same
