use Rattle.std.proofs.Common.{◌∙◌, sym}
use Rattle.std.proofs.lemmas.Result.{err_from_is_err_and}
use Rattle.tre_watch.specs.Outcome.{watched}
use Rattle.tre_watch.specs.Steps.{spelt_checks}
use Rattle.tre_tool.proofs.Plans.{ChecksWereRead-of, IsRefusalOfFile-read, StopsChecks-memory, StopsChecks-unread, patterns_count, read_though, some_patterns}
use Rattle.tre_tool.proofs.checks.asked_of_watch.Goals as goal

-- ---- the file couldn't be read

pub returns-in_err-bytes-clause-stops : goal.returns-in_err-bytes-clause-stops
returns-in_err-bytes-clause-stops g c =
    let p = err_from_is_err_and c.from_residual.result c.from_residual.ensures.1 in
    rw (p.1, p.2) (StopsChecks-unread c.args.file.now watched c.args.scale _
    c.in_err-bytes.field-0.0 c.in_err-bytes.ensures.stops)

-- ---- it is refused

pub returns-in_err-plan-clause-stops : goal.returns-in_err-plan-clause-stops
returns-in_err-plan-clause-stops g c =
    let p = err_from_is_err_and c.from_residual-in_err-plan.result
    c.from_residual-in_err-plan.ensures.1 in
    rw (p.1, p.2) (record {
      wanting = λ other. c.in_ok-bytes.ensures.read.reads;
      refuses = λ never unread. IsRefusalOfFile-read _ watched c.args.scale _
          c.in_err-plan.field-0.0 c.in_ok-bytes.ensures.read
          (rw c.deref.ensures.value at c.in_err-plan.ensures.outcome) never;
      unread = λ unread. absurd (read_though c.in_err-plan.field-0.0 unread);
    })

-- ---- memory was wanting for it

pub returns-in_err-asked-clause-stops : goal.returns-in_err-asked-clause-stops
returns-in_err-asked-clause-stops g c =
    let p = err_from_is_err_and c.from_residual-in_err-asked.result
    c.from_residual-in_err-asked.ensures.1 in
    rw (p.1, p.2) (StopsChecks-memory c.args.file.now watched c.args.scale _
    c.in_ok-bytes.ensures.read.reads)

pub asked_of_plan-requires : goal.asked_of_plan-requires
asked_of_plan-requires g c = c.in_ok-plan.ensures.fit.forms

-- ---- it says patterns

pub returns-clause-patterns : goal.returns-clause-patterns
returns-clause-patterns g c = record {
  checks = spelt_checks c.in_ok-plan.plan;
  says = ChecksWereRead-of _ watched c.args.scale _ _ c.in_ok-bytes.ensures.read
      (rw c.deref.ensures.value at c.in_ok-plan.ensures.outcome);
  are = c.in_ok-asked.ensures.sought;
}

pub returns-clause-labels : goal.returns-clause-labels
returns-clause-labels g c = c.in_ok-asked.ensures.labels
    ∙ sym (patterns_count c.in_ok-plan.plan c.in_ok-asked.asked.patterns
    c.in_ok-asked.ensures.patterns c.in_ok-plan.ensures.fit)

pub returns-clause-some : goal.returns-clause-some
returns-clause-some g c = some_patterns c.in_ok-plan.plan c.in_ok-asked.asked.patterns
    c.in_ok-asked.ensures.patterns c.in_ok-plan.ensures.fit c.in_ok-plan.ensures.some

pub returns-clause-good : goal.returns-clause-good
returns-clause-good g c = c.in_ok-bytes.ensures.read.reads
