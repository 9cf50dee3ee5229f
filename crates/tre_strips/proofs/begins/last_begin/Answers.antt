use Rattle.std.proofs.Common.{rules}
use Rattle.tre_strips.specs.Sweep.{last_begin_of}
use Rattle.tre_strips.proofs.begins.last_begin.Goals as goal

pub returns-clause-last : goal.returns-clause-last
unfolding last_begin_of
returns-clause-last c = search rules
