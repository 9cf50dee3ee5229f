use Rattle.std.proofs.Common.{refl, rules}
use Rattle.tre_feed.proofs.Begun.{none_left}
use Rattle.tre_feed.proofs.Standing.{asked_again}
use Rattle.tre_feed.proofs.each.+cut_each.Goals as goal

pub returns-clause-rows : goal.returns-clause-rows
returns-clause-rows g t c = search (rules, c.in-Some.ensures.cases.0, c.cut_each.ensures.rows)

pub returns-in_default-clause-rows : goal.returns-in_default-clause-rows
returns-in_default-clause-rows g t c =
    λ waiting size begin.
    rw (none_left c.args.each.now c.in_default.ensures.cases) tt

pub returns-clause-same : goal.returns-clause-same
returns-clause-same g t c =
    asked_again g.R.TraceReader.names g.R.TraceReader.terms
    c.args.each.now c.cut_each.new.each c.in-Some.later.now c.in-Some.first.now c.in-Some.first.now
    c.in-Some.ensures.cases.0 refl c.cut_each.ensures.same
