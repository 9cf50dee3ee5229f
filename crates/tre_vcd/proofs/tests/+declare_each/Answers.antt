use Rattle.std.proofs.Common.{◌∷◌, map, sym, ap, ap₂, ◌∙◌, subst}
use Rattle.std.proofs.lemmas.Result.{err_from_is_err_and, on_ok_weaker}
use Rattle.tre_vcd.specs.VcdReading.{var}
use Rattle.tre_vcd.specs.Signals.{AreTested, test_read}
use Rattle.tre_vcd.specs.declared.tests.Tested.{Tested}
use Rattle.tre_vcd.proofs.tests.+declare_each.Goals as goal

pub returns-in_err-declare-clause-same : goal.returns-in_err-declare-clause-same
returns-in_err-declare-clause-same t c =
    ap (λ own. own ∷ map (λ (tested : Tested). tested.definition) c.in-Some.others.now)
    c.declare.ensures.same
    ∙ ap (map (λ (tested : Tested). tested.definition)) (sym c.in-Some.ensures.cases.0)

pub returns-in_err-declare-clause-asks : goal.returns-in_err-declare-clause-asks
returns-in_err-declare-clause-asks t c = λ past tokens offered known.
    let p = err_from_is_err_and c.from_residual.result c.from_residual.ensures.1 in rw p.1 tt

pub returns-clause-same : goal.returns-clause-same
returns-clause-same t c =
    ap₂ (λ own others. own ∷ others) c.declare.ensures.same c.declare_each.ensures.same
    ∙ ap (map (λ (tested : Tested). tested.definition)) (sym c.in-Some.ensures.cases.0)

pub returns-clause-asks : goal.returns-clause-asks
returns-clause-asks t c = λ past tokens offered known.
    let both = subst (AreTested past) c.in-Some.ensures.cases.0 known in
    let first = c.in_ok-declare.ensures.asks past tokens offered both.0
    ∙ ap (test_read (var tokens ∷ past)) (sym c.declare.ensures.same) in
    on_ok_weaker c.declare_each.result (λ others. (first, others))
    (c.declare_each.ensures.asks past tokens offered both.1)
