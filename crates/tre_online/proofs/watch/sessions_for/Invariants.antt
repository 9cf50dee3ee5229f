use Rattle.std.proofs.Common.{take}
use Rattle.tre_online.specs.Giving.{AreNewFor}
use Rattle.tre_online.proofs.watch.sessions_for.Given as goal

abbrev pub invariant-loop-pattern : goal.invariant-loop-pattern
invariant-loop-pattern l = AreNewFor (take l.pattern-index l.patterns) l.sessions.items
