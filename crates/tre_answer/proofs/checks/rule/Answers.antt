use Rattle.std.proofs.Common.{◌∙◌, take, refl, arith}
use Rattle.std.proofs.lemmas.Result.{IfOk-weaker}
use Rattle.tre_answer.specs.Listed.{listed_zones}
use Rattle.tre_answer.proofs.Rulings.{removed, rule_first, rule_two, two_patterns}
use Rattle.tre_answer.proofs.checks.rule.Goals as goal

pub returns-then-patterns_of-eq1-clause-ruling : goal.returns-then-patterns_of-eq1-clause-ruling
returns-then-patterns_of-eq1-clause-ruling c = IfOk-weaker c.rule_alone.result _ _
    (λ ruling is. rule_first c.args.normal c.args.form c.args.patterns.now
    (take 1 c.args.patterns.now) c.args.traces.now.items c.remove-trace.result ruling.verdict
    (listed_zones ruling.zones)
    (omega (arith, c.requires.patterns, c.if-patterns_of-eq1.true, c.patterns_of.ensures))
    (omega (arith, c.requires.traces, c.if-patterns_of-eq1.true, c.patterns_of.ensures)) refl
    c.remove-trace.ensures.value is) c.rule_alone.ensures

pub returns-clause-ruling : goal.returns-clause-ruling
returns-clause-ruling c =
    let two = two_patterns c.args.form (λ one. c.if-patterns_of-eq1.false
    (c.patterns_of.ensures ∙ one)) in
    IfOk-weaker c.rule_both.result _ _
    (λ ruling is. rule_two c.args.normal c.args.form c.args.patterns.now
    (take 2 c.args.patterns.now) c.args.traces.now.items c.remove-trace.new.self.items
    c.remove-trace.result c.remove-other.result ruling.verdict (listed_zones ruling.zones)
    (omega (arith, c.requires.patterns, two)) (omega (arith, c.requires.traces, two)) refl
    c.remove-trace.ensures.value
    (removed c.args.traces.now.items c.remove-trace.new.self.items
    (omega (arith, c.requires.traces, two)) c.remove-trace.ensures.items)
    c.remove-other.ensures.value is) c.rule_both.ensures
