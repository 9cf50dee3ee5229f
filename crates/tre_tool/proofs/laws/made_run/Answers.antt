use Rattle.tre_tool.proofs.MadeRuns.{EndsMadeRun-ends, gives_one}
use Rattle.tre_tool.proofs.laws.made_run.Goals as goal

pub returns-clause-job : goal.returns-clause-job
returns-clause-job c = gives_one

pub returns-clause-ends : goal.returns-clause-ends
returns-clause-ends c = λ words count checks input output status asks.
    EndsMadeRun-ends words count asks checks input output status
