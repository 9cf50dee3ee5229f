use Rattle.tre_strips.proofs.Joining.{IsJoined-settled}
use Rattle.tre_strips.proofs.profiles.join.Goals as goal

pub returns-clause-joined : goal.returns-clause-joined
returns-clause-joined c =
    IsJoined-settled _ _ _ _ _ _ c.settle.ensures.narrowed c.later.ensures.narrowed
    c.settle.ensures.settled c.requires c.later.ensures.later
