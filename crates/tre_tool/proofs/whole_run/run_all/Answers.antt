use Rattle.std.proofs.Common.{map, string_bytes}
use Rattle.tre_words.proofs.Jobs.{job_unique}
use Rattle.tre_tool.proofs.Parts.{IsLineTold-of, of_named, taken_of}
use Rattle.tre_tool.proofs.Promise.{IsComplete-ends}
use Rattle.tre_tool.proofs.whole_run.run_all.Goals as goal

pub returns-clause-complete : goal.returns-clause-complete
returns-clause-complete g c = rw c.ending-status.ensures
    (IsComplete-ends _ (job_unique (map string_bytes c.args.words.now)) _ _ _ _
    c.run_words.ensures.ends)

pub returns-clause-error : goal.returns-clause-error
returns-clause-error g c = IsLineTold-of _ _ c.tell_status.result
    c.tell_status.ensures.cause c.tell_status.ensures.line c.tell_status.ensures.part

pub returns-clause-input : goal.returns-clause-input
returns-clause-input g c = c.run_words.ensures.reads

pub returns-clause-file : goal.returns-clause-file
returns-clause-file g c = λ opened.
    let taken = taken_of _ _ _ (c.run_words.ensures.checks_at_most opened) in (
      of_named (g.P.Source.told c.args.checks.now).name (map string_bytes c.args.words.now)
          (λ job file gives named. c.run_words.ensures.checks_by_name job file gives named opened),
      taken.0,
      taken.1,
      taken.2,
    )
