use Rattle.tre_offline.proofs.LastingUpTo.{LastUpTo-any}
use Rattle.tre_offline.proofs.lengths.longest_for.Goals as goal

pub returns-then-is_atom-clause-all : goal.returns-then-is_atom-clause-all
returns-then-is_atom-clause-all c = LastUpTo-any c.args.set.now
