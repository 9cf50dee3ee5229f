use Rattle.std.proofs.Common.{◌∙◌, ap, sym, Some, map, string_bytes}
use Rattle.tre_words.proofs.Jobs.{from_made}
use Rattle.tre_words.proofs.words.read_made_run.Goals as goal

pub returns-clause-is_job : goal.returns-clause-is_job
returns-clause-is_job c = from_made (map string_bytes c.args.words.now) (Some c.in-Some.count)
    c.in_ok-job.job (sym c.made_count.ensures ∙ c.in-Some.is) (ap Some (sym c.in_ok-job.ensures))
