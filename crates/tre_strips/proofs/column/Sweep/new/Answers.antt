use Rattle.tre_strips.proofs.Sweeping.{IsSwept-first}
use Rattle.tre_strips.proofs.column.Sweep.new.Goals as goal

pub returns-clause-swept : goal.returns-clause-swept
returns-clause-swept c = λ zones. rw c.new.ensures.items (IsSwept-first zones)
