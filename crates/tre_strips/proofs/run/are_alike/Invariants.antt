use Rattle.tre_strips.specs.Times.{sample_of}
use Rattle.tre_strips.proofs.Fitting.{AlikeBelow}
use Rattle.tre_strips.proofs.run.are_alike.Given as goal

abbrev pub invariant-loop-place : goal.invariant-loop-place
invariant-loop-place l = AlikeBelow l.place l.bars l.others (sample_of l.times)
