use Rattle.std.proofs.Common.{◌≡◌}
use Rattle.tre_trace.specs.Trace.{quiet}
use Rattle.tre_generate.specs.Made.{made_trace}
use Rattle.tre_generate.proofs.made.made_trace.Given as goal

abbrev pub invariant-loop-number : goal.invariant-loop-number
invariant-loop-number l = l.trace ≡ quiet (made_trace l.number)
