use Rattle.tre_answer.proofs.Wanted.{AreLeft}
use Rattle.tre_answer.proofs.offline.without_others.Given as goal

-- the matches of the patterns before this place are taken away
abbrev pub invariant-loop-place : goal.invariant-loop-place
invariant-loop-place l = AreLeft l.fn.set l.patterns l.traces l.place l.left
