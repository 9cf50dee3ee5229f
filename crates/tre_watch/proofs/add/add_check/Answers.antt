use Rattle.std.proofs.Common.{ap, is_some, subst, sym, ◌∙◌, arith}
use Rattle.std.proofs.lemmas.Result.{MatchResult-weaker}
use Rattle.tre_watch.specs.Outcome.{SpeltChecks}
use Rattle.tre_watch.specs.Steps.{LineLeads, spelt_checks, spelt_in, texts_of}
use Rattle.tre_watch.proofs.Lines.{checks_with, leads_check, stops_form, stops_many, stops_memory, stops_texts, stops_twice}
use Rattle.tre_watch.proofs.add.add_check.Goals as goal

pub returns-then-not-may_stand : goal.returns-then-not-may_stand
returns-then-not-may_stand c = λ line says.
    stops_form c.args.verdicts c.args.scale c.args.number line (spelt_checks c.args.checks.now)
    c.args.check.form c.args.check.name.now (texts_of c.args.check) says
    (sym c.may_stand.ensures ∙ c.if-not-may_stand.true)

pub returns-then-len-ge-NAMES_MAX : goal.returns-then-len-ge-NAMES_MAX
returns-then-len-ge-NAMES_MAX c = λ line says.
    stops_many c.args.verdicts c.args.scale c.args.number line (spelt_checks c.args.checks.now)
    c.args.check.form c.args.check.name.now (texts_of c.args.check) says
    (sym c.may_stand.ensures ∙ c.if-not-may_stand.false) (omega (arith, c.len.ensures.len))

pub returns-then-is_some : goal.returns-then-is_some
returns-then-is_some c = λ line says.
    stops_twice c.args.verdicts c.args.scale c.args.number line (spelt_checks c.args.checks.now)
    c.args.check.form c.args.check.name.now (texts_of c.args.check) says
    (sym c.may_stand.ensures ∙ c.if-not-may_stand.false) (omega (arith, c.len.ensures.len))
    (ap is_some (sym c.find.ensures) ∙ sym c.if-is_some.ensures)

pub returns-in-Ok : goal.returns-in-Ok
returns-in-Ok c = λ line says.
    MatchResult-weaker c.add_name.result c.add_name.ensures
    (λ _ h.
    subst (λ (new : SpeltChecks).
    LineLeads c.args.verdicts c.args.scale c.args.number line (spelt_checks c.args.checks.now) new)
    (checks_with c.args.checks.now c.add_name.new.checks c.args.check.form c.args.check.name.now
    c.in-Ok.ensures.0 h.0 h.1 (ap (λ list. list.items) h.2 ∙ c.in-Ok.ensures.1) h.3)
    (leads_check c.args.verdicts c.args.scale c.args.number line (spelt_checks c.args.checks.now)
    c.args.check.form c.args.check.name.now (texts_of c.args.check) says
    (sym c.may_stand.ensures ∙ c.if-not-may_stand.false) (omega (arith, c.len.ensures.len))
    (ap is_some (sym c.find.ensures) ∙ sym c.if-is_some.ensures)
    (spelt_in c.in-Ok.ensures.0) c.in-Ok.ensures.2))
    (λ fault e. stops_memory c.args.verdicts c.args.scale c.args.number line
    (spelt_checks c.args.checks.now) fault e)

pub returns-in-Err : goal.returns-in-Err
returns-in-Err c = λ line says.
    stops_texts c.args.verdicts c.args.scale c.args.number line (spelt_checks c.args.checks.now)
    c.args.check.form c.args.check.name.now (texts_of c.args.check) says
    (sym c.may_stand.ensures ∙ c.if-not-may_stand.false) (omega (arith, c.len.ensures.len))
    (ap is_some (sym c.find.ensures) ∙ sym c.if-is_some.ensures) c.in-Err.fault c.in-Err.ensures
