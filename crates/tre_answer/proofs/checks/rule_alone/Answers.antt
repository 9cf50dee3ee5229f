use Rattle.std.proofs.Common.{sym}
use Rattle.std.proofs.lemmas.Result.{IfOk-weaker}
use Rattle.tre_answer.specs.Listed.{listed_zones}
use Rattle.tre_answer.proofs.Rulings.{alone_ruled, found_ruled}
use Rattle.tre_answer.proofs.checks.rule_alone.Goals as goal

pub returns-in-Found : goal.returns-in-Found
returns-in-Found c = rw c.in-Found.is (IfOk-weaker c.rule_found.result _ _
    (λ ruling is. found_ruled c.args.normal c.args.patterns.now _ c.args.trace ruling.verdict
    (listed_zones ruling.zones) c.requires.one c.index-patterns-0.is is) c.rule_found.ensures)

pub returns-in_ok-zones-in_default : goal.returns-in_ok-zones-in_default
returns-in_ok-zones-in_default c = alone_ruled c.args.normal c.args.form c.args.patterns.now
    c.args.trace c.judge_alone-verdict.result (listed_zones c.in_ok-zones-in_default.zones)
    c.requires.one c.requires.form c.in_default.not-Found c.in_ok-zones-in_default.ensures
    (c.judge_alone-verdict.ensures (listed_zones c.in_ok-zones-in_default.zones)
    c.in_ok-zones-in_default.ensures.asked.tight (sym c.count.ensures))
