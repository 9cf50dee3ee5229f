use Rattle.tre_online.specs.Giving.{SessionCloses}
use Rattle.tre_online.proofs.Becoming.{HaveBecome}
use Rattle.tre_online.proofs.watch.close_each.Given as goal

abbrev pub invariant-loop-place : goal.invariant-loop-place
invariant-loop-place l = HaveBecome SessionCloses l.fn.sessions l.events l.place l.sessions
