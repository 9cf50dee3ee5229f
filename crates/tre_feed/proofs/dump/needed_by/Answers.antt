use Rattle.tre_feed.proofs.Inputs.{if_ok_then}
use Rattle.tre_feed.proofs.dump.needed_by.Goals as goal

pub returns-clause-needs : goal.returns-clause-needs
returns-clause-needs c = if_ok_then c.shared.result _ _
    (λ one same. rw same c.in-Ok.ensures.needs) c.shared.ensures

pub returns-clause-definitions : goal.returns-clause-definitions
returns-clause-definitions c = if_ok_then c.shared.result _ _
    (λ one same. rw same c.in-Ok.ensures.definitions) c.shared.ensures
