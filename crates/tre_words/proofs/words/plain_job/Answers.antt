use Rattle.std.proofs.Common.{◌∙◌, true≢false, subst, sym}
use Rattle.clap.specs.Words.{found_of, rows_of}
use Rattle.tre_words.specs.CommandLine.{found_in}
use Rattle.tre_words.specs.Job.{MayStand}
use Rattle.tre_words.proofs.Jobs.{found_once}
use Rattle.tre_words.proofs.words.plain_job.Goals as goal

pub returns-clause-ok : goal.returns-clause-ok
returns-clause-ok c =
    (c.in_ok-job.ensures.ok, c.may_stand.ensures.0 c.if-not-may_stand.false)

pub returns-then-not-may_stand-clause-usage : goal.returns-then-not-may_stand-clause-usage
returns-then-not-may_stand-clause-usage c = λ usage job says stands.
    let same = found_once (rows_of (found_of c.args.matches.now)) job c.in_ok-job.job says
    c.in_ok-job.ensures.ok in
    absurd (true≢false (sym (c.may_stand.ensures.1
    (subst (MayStand (found_in (rows_of (found_of c.args.matches.now)))) same stands))
    ∙ c.if-not-may_stand.true))
