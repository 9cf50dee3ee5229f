use Rattle.std.proofs.Common.{rules}
use Rattle.tre_strips.specs.Sweep.{begin_of}
use Rattle.tre_strips.proofs.begins.first_begin.Goals as goal

pub returns : goal.returns
unfolding begin_of
returns c = search rules
