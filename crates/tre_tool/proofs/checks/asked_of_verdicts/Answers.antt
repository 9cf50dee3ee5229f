use Rattle.std.proofs.Common.{◌∙◌, ap, sym}
use Rattle.std.proofs.lemmas.Result.{err_from_is_err_and}
use Rattle.tre_watch.specs.Outcome.{judged}
use Rattle.tre_watch.specs.Steps.{known_in, spelt_checks}
use Rattle.tre_tool.proofs.Plans.{ChecksWereRead-of, IsRefusalOfFile-read, StopsChecks-memory, StopsChecks-unread, patterns_count, read_though, some_patterns}
use Rattle.tre_tool.proofs.checks.asked_of_verdicts.Goals as goal

-- ---- the file couldn't be read

pub returns-in_err-bytes-clause-stops : goal.returns-in_err-bytes-clause-stops
returns-in_err-bytes-clause-stops g c =
    let p = err_from_is_err_and c.from_residual.result c.from_residual.ensures.1 in
    rw (p.1, p.2) (StopsChecks-unread c.args.file.now (judged (known_in c.args.known)) c.args.scale _
    c.in_err-bytes.field-0.0 c.in_err-bytes.ensures.stops)

-- ---- it is refused

pub returns-in_err-read-clause-stops : goal.returns-in_err-read-clause-stops
returns-in_err-read-clause-stops g c =
    let p = err_from_is_err_and c.from_residual-in_err-read.result
    c.from_residual-in_err-read.ensures.1 in
    rw (p.1, p.2) (record {
      wanting = λ other. c.in_ok-bytes.ensures.read.reads;
      refuses = λ never unread. IsRefusalOfFile-read _ (judged (known_in c.args.known)) c.args.scale _
          c.in_err-read.field-0.0 c.in_ok-bytes.ensures.read
          (rw c.deref.ensures.value at c.in_err-read.ensures.outcome) never;
      unread = λ unread. absurd (read_though c.in_err-read.field-0.0 unread);
    })

-- ---- memory was wanting for it

pub returns-in_err-question-clause-stops : goal.returns-in_err-question-clause-stops
returns-in_err-question-clause-stops g c =
    let p = err_from_is_err_and c.from_residual-in_err-question.result
    c.from_residual-in_err-question.ensures.1 in
    rw (p.1, p.2) (StopsChecks-memory c.args.file.now (judged (known_in c.args.known)) c.args.scale _
    c.in_ok-bytes.ensures.read.reads)

pub question_of-requires : goal.question_of-requires
question_of-requires g c = c.in_ok-read.ensures.fit.forms

-- ---- it says checks

pub returns-clause-verdicts : goal.returns-clause-verdicts
returns-clause-verdicts g c = record {
  checks = spelt_checks c.in_ok-read.read;
  says = ChecksWereRead-of _ (judged (known_in c.args.known)) c.args.scale _ _
      c.in_ok-bytes.ensures.read (rw c.deref.ensures.value at c.in_ok-read.ensures.outcome);
  are = c.in_ok-question.ensures.sought;
  formed = ap (λ forms. forms.items) c.in_ok-question.ensures.forms;
  by_columns = c.in_ok-question.ensures.columns;
  by_signals = c.in_ok-question.ensures.signals;
}

pub returns-clause-count : goal.returns-clause-count
returns-clause-count g c = rw c.in_ok-question.ensures.forms
    (patterns_count c.in_ok-read.read c.in_ok-question.question.asked.patterns
    c.in_ok-question.ensures.patterns c.in_ok-read.ensures.fit)

pub returns-clause-labels : goal.returns-clause-labels
returns-clause-labels g c = c.in_ok-question.ensures.labels
    ∙ sym (patterns_count c.in_ok-read.read c.in_ok-question.question.asked.patterns
    c.in_ok-question.ensures.patterns c.in_ok-read.ensures.fit)

pub returns-clause-some : goal.returns-clause-some
returns-clause-some g c = some_patterns c.in_ok-read.read
    c.in_ok-question.question.asked.patterns c.in_ok-question.ensures.patterns
    c.in_ok-read.ensures.fit c.in_ok-read.ensures.some

pub returns-clause-good : goal.returns-clause-good
returns-clause-good g c = c.in_ok-bytes.ensures.read.reads
