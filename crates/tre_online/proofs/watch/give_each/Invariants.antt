use Rattle.tre_online.specs.Giving.{SessionGoes}
use Rattle.tre_online.proofs.Becoming.{HaveBecome}
use Rattle.tre_online.proofs.watch.give_each.Given as goal

abbrev pub invariant-loop-place : goal.invariant-loop-place
invariant-loop-place l = HaveBecome SessionGoes l.fn.sessions l.segments l.place l.sessions
