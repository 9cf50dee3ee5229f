use Rattle.std.proofs.Common.{None}
use Rattle.tre_trace.specs.Trace.{quiet}
use Rattle.tre_syntax.specs.Rest.{AtomMatches, rest_of, prefixed}
use Rattle.tre_syntax.proofs.Growth.{Implies-grown}
use Rattle.tre_syntax.proofs.MeaningLaws.{Implies-Meaning}
use Rattle.tre_syntax.proofs.laws.growing.Goals as goal

pub returns : goal.returns
returns c = record {
  rest = λ tree start before u next.
      (Implies-Meaning (AtomMatches (rest_of start before (quiet u)))
      (AtomMatches (rest_of start before (prefixed u next))) (Implies-grown start before u next)
      tree).at;
  whole = λ tree u next.
      (Implies-Meaning (AtomMatches (rest_of 0 None (quiet u)))
      (AtomMatches (rest_of 0 None (prefixed u next))) (Implies-grown 0 None u next) tree).at;
}
