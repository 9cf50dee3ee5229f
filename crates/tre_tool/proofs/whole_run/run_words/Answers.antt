use Rattle.std.proofs.Common.{◌≡◌, ◌+◌, ◌≤◌, ℕ, List, length, IfSome, Err, ap, refl, map, string_bytes}
use Rattle.std.proofs.lemmas.Result.{err_from_is_err_and}
use Rattle.tre_words.proofs.Jobs.{job_unique}
use Rattle.std.specs.Io.KnownBytes.{Consumes}
use Rattle.tre_tool.proofs.Once.{nothing_asked}
use Rattle.tre_tool.proofs.Parts.{EndsAs-words, EndsAs-stopped, EndsAs-answered, EndsAs-done, AsksFor-of, never_first, never_first-done, of_job, of_file, kept_as, kept_by, taken_of}
use Rattle.tre_tool.proofs.Promise.{read_as_told}
use Rattle.tre_tool.proofs.whole_run.run_words.Goals as goal

-- ---- words that give no job

pub returns-in_err-job-clause-ends : goal.returns-in_err-job-clause-ends
returns-in_err-job-clause-ends g c =
    let p = err_from_is_err_and c.from_residual.result c.from_residual.ensures.1 in
    rw (p.1, p.2) (EndsAs-words _ _ _ _ c.in_err-job.field-0.0
    (λ is. c.in_err-job.ensures.usage (ap Err is)) refl
    (record {
      unopened = c.requires.input;
      reads = refl;
      unwritten = record { unwritten = refl; writes = refl };
    }))

-- ---- words that ask for nothing

pub returns-in_err-question-clause-ends : goal.returns-in_err-question-clause-ends
returns-in_err-question-clause-ends g c =
    let p = err_from_is_err_and c.from_residual-in_err-question.result
    c.from_residual-in_err-question.ensures.1 in
    let stopped = c.in_err-question.ensures.stops in
    rw (p.1, p.2) (EndsAs-stopped _ _ _ _ c.in_ok-job.job c.in_ok-job.ensures.ok
    (record {
      unopened = c.requires.input;
      reads = refl;
      unwritten = record { unwritten = refl; writes = refl };
    })
    c.in_err-question.field-0.0 stopped.refuses stopped.unread stopped.wanting)

pub returns-in_err-question-clause-untouched : goal.returns-in_err-question-clause-untouched
returns-in_err-question-clause-untouched g c = λ nothing. (refl, refl)

pub returns-in_err-question-clause-nothing_first :
    goal.returns-in_err-question-clause-nothing_first
returns-in_err-question-clause-nothing_first g c = λ first. (refl, refl)

pub returns-in_err-question-clause-source_untouched :
    goal.returns-in_err-question-clause-source_untouched
returns-in_err-question-clause-source_untouched g c = λ job gives unread. refl

pub returns-in_err-question-clause-checks_untouched :
    goal.returns-in_err-question-clause-checks_untouched
returns-in_err-question-clause-checks_untouched g c = λ never.
    kept_by (map string_bytes c.args.words.now) c.in_ok-job.job _ c.in_ok-job.ensures.ok
    c.in_err-question.ensures.untouched never

pub returns-in_err-question-clause-reads : goal.returns-in_err-question-clause-reads
returns-in_err-question-clause-reads g c = λ job gives opened.
    let closed = c.requires.input in
    cc

pub returns-in_err-question-clause-checks_by_name :
    goal.returns-in_err-question-clause-checks_by_name
returns-in_err-question-clause-checks_by_name g c = λ job file gives named opened.
    of_file (map string_bytes c.args.words.now) c.in_ok-job.job job file
    (λ name. IfSome (g.P.Source.told c.args.checks.now).name (λ told. told ≡ name))
    c.in_ok-job.ensures.ok gives named (c.in_err-question.ensures.by_name opened)

-- ---- an answer that ended before its end

pub answer-requires-clause-closed : goal.answer-requires-clause-closed
answer-requires-clause-closed g c = c.requires.input

pub returns-in_err-failed-clause-ends : goal.returns-in_err-failed-clause-ends
returns-in_err-failed-clause-ends g c =
    let p = err_from_is_err_and c.from_residual-in_err-failed.result
    c.from_residual-in_err-failed.ensures.1 in
    let question = c.in_ok-question.question in
    let found = c.in_ok-question.ensures.asks in
    let asks = AsksFor-of _ _ c.in_ok-job.job question.definitions question.asked
    c.in_ok-job.ensures.ok found.asks in
    rw (p.1, p.2) (EndsAs-answered _ _ _ _ _ c.in_err-failed.field-0.0 asks found.good
    c.in_err-failed.ensures.ends)

pub returns-in_err-failed-clause-untouched : goal.returns-in_err-failed-clause-untouched
returns-in_err-failed-clause-untouched g c =
    let question = c.in_ok-question.question in
    let found = c.in_ok-question.ensures.asks in
    let asks = AsksFor-of _ _ c.in_ok-job.job question.definitions question.asked
    c.in_ok-job.ensures.ok found.asks in
    λ nothing. absurd (nothing_asked _ (job_unique (map string_bytes c.args.words.now)) _ _
    (read_as_told _) _ asks nothing)

pub returns-in_err-failed-clause-nothing_first : goal.returns-in_err-failed-clause-nothing_first
returns-in_err-failed-clause-nothing_first g c =
    let p = err_from_is_err_and c.from_residual-in_err-failed.result
    c.from_residual-in_err-failed.ensures.1 in
    rw (p.1, p.2) (λ first. absurd (never_first c.in_err-failed.field-0.0 first))

pub returns-in_err-failed-clause-source_untouched :
    goal.returns-in_err-failed-clause-source_untouched
returns-in_err-failed-clause-source_untouched g c = λ job gives unread.
    kept_as (map string_bytes c.args.words.now) c.in_ok-job.job job _ c.in_ok-job.ensures.ok gives
    c.in_err-failed.ensures.untouched unread

pub returns-in_err-failed-clause-checks_untouched :
    goal.returns-in_err-failed-clause-checks_untouched
returns-in_err-failed-clause-checks_untouched g c = λ never.
    kept_by (map string_bytes c.args.words.now) c.in_ok-job.job _ c.in_ok-job.ensures.ok
    c.in_ok-question.ensures.untouched never

pub returns-in_err-failed-clause-reads : goal.returns-in_err-failed-clause-reads
returns-in_err-failed-clause-reads g c = λ job gives opened.
    let taken = taken_of _ _ _ (c.in_err-failed.ensures.bounded opened) in
    of_job (map string_bytes c.args.words.now) c.in_ok-job.job job
    (λ job. IfSome (g.S.Source.told c.args.input.now).name (λ told. told ≡ job.input)
    × (taken : List ℕ) × (length taken ≤ job.max_bytes + 1)
    × Consumes (g.S.Source.told c.args.input.now).file
    (g.S.Source.told c.answer.new.source).left taken) c.in_ok-job.ensures.ok gives (
      c.in_err-failed.ensures.by_name opened,
      taken.0,
      taken.1,
      taken.2,
    )

pub returns-in_err-failed-clause-checks_by_name : goal.returns-in_err-failed-clause-checks_by_name
returns-in_err-failed-clause-checks_by_name g c = λ job file gives named opened.
    of_file (map string_bytes c.args.words.now) c.in_ok-job.job job file
    (λ name. IfSome (g.P.Source.told c.args.checks.now).name (λ told. told ≡ name))
    c.in_ok-job.ensures.ok gives named (c.in_ok-question.ensures.by_name opened)

-- ---- an answer

pub returns-clause-ends : goal.returns-clause-ends
returns-clause-ends g c =
    let question = c.in_ok-question.question in
    let found = c.in_ok-question.ensures.asks in
    let asks = AsksFor-of _ _ c.in_ok-job.job question.definitions question.asked
    c.in_ok-job.ensures.ok found.asks in
    EndsAs-done _ _ _ _ _ c.in_ok-failed.failed asks c.in_ok-failed.ensures.ends

pub returns-clause-untouched : goal.returns-clause-untouched
returns-clause-untouched g c =
    let question = c.in_ok-question.question in
    let found = c.in_ok-question.ensures.asks in
    let asks = AsksFor-of _ _ c.in_ok-job.job question.definitions question.asked
    c.in_ok-job.ensures.ok found.asks in
    λ nothing. absurd (nothing_asked _ (job_unique (map string_bytes c.args.words.now)) _ _
    (read_as_told _) _ asks nothing)

pub returns-clause-nothing_first : goal.returns-clause-nothing_first
returns-clause-nothing_first g c = λ first. absurd (never_first-done c.in_ok-failed.failed first)

pub returns-clause-source_untouched : goal.returns-clause-source_untouched
returns-clause-source_untouched g c = λ job gives unread.
    kept_as (map string_bytes c.args.words.now) c.in_ok-job.job job _ c.in_ok-job.ensures.ok gives
    c.in_ok-failed.ensures.untouched unread

pub returns-clause-checks_untouched : goal.returns-clause-checks_untouched
returns-clause-checks_untouched g c = λ never.
    kept_by (map string_bytes c.args.words.now) c.in_ok-job.job _ c.in_ok-job.ensures.ok
    c.in_ok-question.ensures.untouched never

pub returns-clause-reads : goal.returns-clause-reads
returns-clause-reads g c = λ job gives opened.
    let taken = taken_of _ _ _ (c.in_ok-failed.ensures.bounded opened) in
    of_job (map string_bytes c.args.words.now) c.in_ok-job.job job
    (λ job. IfSome (g.S.Source.told c.args.input.now).name (λ told. told ≡ job.input)
    × (taken : List ℕ) × (length taken ≤ job.max_bytes + 1)
    × Consumes (g.S.Source.told c.args.input.now).file
    (g.S.Source.told c.answer.new.source).left taken) c.in_ok-job.ensures.ok gives (
      c.in_ok-failed.ensures.by_name opened,
      taken.0,
      taken.1,
      taken.2,
    )

pub returns-clause-checks_by_name : goal.returns-clause-checks_by_name
returns-clause-checks_by_name g c = λ job file gives named opened.
    of_file (map string_bytes c.args.words.now) c.in_ok-job.job job file
    (λ name. IfSome (g.P.Source.told c.args.checks.now).name (λ told. told ≡ name))
    c.in_ok-job.ensures.ok gives named (c.in_ok-question.ensures.by_name opened)
