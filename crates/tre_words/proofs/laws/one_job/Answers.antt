use Rattle.tre_words.proofs.Jobs.{job_unique}
use Rattle.tre_words.proofs.laws.one_job.Goals as goal

pub returns : goal.returns
returns c = job_unique
