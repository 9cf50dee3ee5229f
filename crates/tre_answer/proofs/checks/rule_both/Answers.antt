use Rattle.tre_answer.proofs.Rulings.{both_judged, both_ruled}
use Rattle.tre_answer.proofs.checks.rule_both.Goals as goal

pub returns : goal.returns
returns c = both_ruled c.args.normal c.args.form c.args.patterns.now _ _ c.args.trace c.args.other.now
    c.in_ok-judged.judged.verdict c.in_ok-zones.zones.items c.requires.both
    c.index-patterns-0.is c.index-patterns-1.is
    (both_judged c.args.normal c.args.form _ c.args.trace _ c.args.other.now
    c.in_ok-judged.judged.verdict c.in_ok-judged.judged.shown c.in_ok-zones.zones.items
    c.in_ok-judged.ensures.verdict c.in_ok-judged.ensures.shown c.in_ok-zones.ensures.set
    c.in_ok-zones.ensures.zones)
