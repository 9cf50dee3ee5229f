use Rattle.tre_words.specs.Job.{GivesJob}
use Rattle.tre_tool.proofs.Ended.{given_of, ended_of}
use Rattle.tre_tool.proofs.laws.given_job.Goals as goal

pub returns : goal.returns
returns c = λ words checks input output status ends.
    given_of (GivesJob words) checks input output status
    (ended_of (GivesJob words) checks input output status ends)
