use Rattle.tre_words.proofs.Jobs.{IsJob-given}
use Rattle.tre_words.proofs.laws.given_is_job.Goals as goal

pub returns : goal.returns
returns c = IsJob-given
