use Rattle.std.proofs.Common.{◌≡◌, ◌+◌, ◌-◌, length, ap, sym, ◌∙◌, inr, arith}
use Rattle.std.proofs.lemmas.List.{length-drop, length-take}
use Rattle.std.proofs.lemmas.Result.{err_from_is_err_and}
use Rattle.tre_watch.specs.Outcome.{faulty, is_enough, planned}
use Rattle.tre_watch.specs.Steps.{spelt_checks}
use Rattle.tre_watch.specs.declared.fault.WatchFault.TheVariants.{Empty}
use Rattle.tre_watch.proofs.Lines.{Reaches-start, Reaches-next, Reaches-stop, Reaches-last_stop, Reaches-end, ended_empty, ended_some, some_name}
use Rattle.tre_watch.proofs.reader.add_lines.Goals as goal

pub loop-end-init : goal.loop-end-init
loop-end-init c = record {
  reaches = Reaches-start c.args.verdicts c.args.scale c.args.bytes.now
      (spelt_checks c.args.checks.now) c.requires.fit;
  small = omega arith;
}

pub loop-end-preserved : goal.loop-end-preserved
loop-end-preserved c =
    let high = c.in-Some.ensures.0.high in
    let shorter : length c.behind_line-rest.result.now
    ≡ length c.loop-end.rest.now - (c.in-Some.end + 1) =
    ap length c.behind_line-rest.ensures
    ∙ length-drop (c.in-Some.end + 1) c.loop-end.rest.now in
    let small = c.loop-end.invariant.small in
    record {
      reaches = rw c.behind_line-rest.ensures
          (Reaches-next c.args.verdicts c.args.scale c.args.bytes.now
          (spelt_checks c.args.checks.now) (spelt_checks c.loop-end.checks) c.loop-end.number
          c.loop-end.rest.now c.loop-end.invariant.reaches c.in-Some.end c.in-Some.ensures.0
          c.in-Some.ensures.1 (spelt_checks c.add_line.new.checks) c.in_ok-add_line.ensures);
      small = omega arith;
    }

pub returns-in_err-add_line-clause-outcome : goal.returns-in_err-add_line-clause-outcome
returns-in_err-add_line-clause-outcome c =
    let p = err_from_is_err_and c.from_residual.result c.from_residual.ensures.1 in
    rw (p.1, p.2)
    (Reaches-stop c.args.verdicts c.args.scale c.args.bytes.now (spelt_checks c.args.checks.now)
    (spelt_checks c.loop-end.checks) c.loop-end.number c.loop-end.rest.now
    c.loop-end.invariant.reaches c.in-Some.end c.in-Some.ensures.0 c.in-Some.ensures.1
    c.in_err-add_line.field-0.0 c.in_err-add_line.ensures)

pub returns-in_err-add_line-2-clause-outcome : goal.returns-in_err-add_line-2-clause-outcome
returns-in_err-add_line-2-clause-outcome c =
    let p = err_from_is_err_and c.from_residual-in_err-add_line-2.result
    c.from_residual-in_err-add_line-2.ensures.1 in
    rw (p.1, p.2)
    (Reaches-last_stop c.args.verdicts c.args.scale c.args.bytes.now
    (spelt_checks c.args.checks.now) (spelt_checks c.loop-end.checks) c.loop-end.number
    c.loop-end.rest.now c.loop-end.invariant.reaches c.in_default.ensures
    c.in_err-add_line-2.field-0.0 c.in_err-add_line-2.ensures)

pub returns-then-not-is_enough-clause-outcome : goal.returns-then-not-is_enough-clause-outcome
returns-then-not-is_enough-clause-outcome c =
    inr (Reaches-end c.args.verdicts c.args.scale c.args.bytes.now
    (spelt_checks c.args.checks.now) (spelt_checks c.loop-end.checks) c.loop-end.number
    c.loop-end.rest.now c.loop-end.invariant.reaches c.in_default.ensures
    (spelt_checks c.add_line-2.new.checks) c.in_ok-add_line-2.ensures (faulty Empty)
    (ended_empty c.args.verdicts (spelt_checks c.add_line-2.new.checks)
    (ap (λ forms. is_enough c.args.verdicts forms) (sym c.deref.ensures.value)
    ∙ sym c.is_enough.ensures ∙ c.if-not-is_enough.true)))

pub returns-clause-outcome : goal.returns-clause-outcome
returns-clause-outcome c =
    Reaches-end c.args.verdicts c.args.scale c.args.bytes.now
    (spelt_checks c.args.checks.now) (spelt_checks c.loop-end.checks) c.loop-end.number
    c.loop-end.rest.now c.loop-end.invariant.reaches c.in_default.ensures
    (spelt_checks c.add_line-2.new.checks) c.in_ok-add_line-2.ensures
    (planned (spelt_checks c.add_line-2.new.checks))
    (ended_some c.args.verdicts (spelt_checks c.add_line-2.new.checks)
    (ap (λ forms. is_enough c.args.verdicts forms) (sym c.deref.ensures.value)
    ∙ sym c.is_enough.ensures ∙ c.if-not-is_enough.false))

pub returns-clause-fit : goal.returns-clause-fit
returns-clause-fit c = c.in_ok-add_line-2.ensures.fit c.loop-end.invariant.reaches.fit

pub returns-clause-some : goal.returns-clause-some
returns-clause-some c =
    some_name c.args.verdicts (spelt_checks c.add_line-2.new.checks)
    (c.in_ok-add_line-2.ensures.fit c.loop-end.invariant.reaches.fit)
    (ap (λ forms. is_enough c.args.verdicts forms) (sym c.deref.ensures.value)
    ∙ sym c.is_enough.ensures ∙ c.if-not-is_enough.false)

pub returns-in_err-add_line-clause-never_memory : goal.returns-in_err-add_line-clause-never_memory
returns-in_err-add_line-clause-never_memory c =
    let p = err_from_is_err_and c.from_residual.result c.from_residual.ensures.1 in
    rw (p.1, p.2) c.in_err-add_line.ensures.never_memory

pub returns-in_err-add_line-2-clause-never_memory :
    goal.returns-in_err-add_line-2-clause-never_memory
returns-in_err-add_line-2-clause-never_memory c =
    let p = err_from_is_err_and c.from_residual-in_err-add_line-2.result
    c.from_residual-in_err-add_line-2.ensures.1 in
    rw (p.1, p.2) c.in_err-add_line-2.ensures.never_memory

pub overflow_add-number : goal.overflow_add-number
overflow_add-number c = omega (arith, c.loop-end.invariant.small, c.requires.small)

pub loop-end-smaller : goal.loop-end-smaller
loop-end-smaller c =
    let shorter : length c.behind_line-rest.result.now
    ≡ length c.loop-end.rest.now - (c.in-Some.end + 1) =
    ap length c.behind_line-rest.ensures
    ∙ length-drop (c.in-Some.end + 1) c.loop-end.rest.now in
    omega (arith, shorter, c.in-Some.ensures.0.high)

pub slice_bounds-add_line-end : goal.slice_bounds-add_line-end
slice_bounds-add_line-end c =
    omega (arith, length-take c.in-Some.end c.loop-end.rest.now, c.in-Some.ensures.0.high)

pub behind_line-rest-requires : goal.behind_line-rest-requires
behind_line-rest-requires c = c.in-Some.ensures.0.high
