use Rattle.tre_words.specs.Job.{GivesJob}
use Rattle.tre_words.proofs.Jobs.{job_unique}
use Rattle.tre_tool.specs.Checks.{ChecksAreTold}
use Rattle.tre_tool.proofs.Once.{definitions_same, request_once}
use Rattle.tre_tool.proofs.Promise.{told_once}
use Rattle.tre_tool.proofs.laws.one_request.Goals as goal

pub returns-clause-request : goal.returns-clause-request
returns-clause-request c = λ words checks. request_once (GivesJob words) (job_unique words)
    (ChecksAreTold checks) (ChecksAreTold checks) (told_once checks)

pub returns-clause-definitions : goal.returns-clause-definitions
returns-clause-definitions c = λ words checks. definitions_same (GivesJob words) (job_unique words)
    (ChecksAreTold checks) (ChecksAreTold checks) (told_once checks)
