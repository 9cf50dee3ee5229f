use Rattle.tre_strips.proofs.Comparing.{Compares-test}
use Rattle.tre_strips.proofs.times.Times.is_before.Goals as goal

pub returns-clause-told : goal.returns-clause-told
returns-clause-told c = Compares-test _ _ _ _ c.stands_before.ensures c.settle.ensures.settled
