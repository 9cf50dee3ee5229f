use Rattle.std.proofs.Common.{ℕ, Option, List, None}
use Rattle.tre_pairs.proofs.Laws.{ImpliesBefore}
use Rattle.tre_trace.specs.declared.segment.Segment.{Segment}
use Rattle.tre_trace.specs.Trace.{Timeline, end_of, quiet}
use Rattle.tre_syntax.specs.Meaning.{MatchesRest}
use Rattle.tre_syntax.specs.PatternTree.{PatternTree}
use Rattle.tre_syntax.specs.Rest.{AtomMatches, rest_of, prefixed}
use Rattle.tre_syntax.proofs.Atoms.{IsOrdered-Atom, IsInstant-Empty}
use Rattle.tre_syntax.proofs.Growth.{ImpliesBefore-cut}
use Rattle.tre_syntax.proofs.MeaningLaws.{ImpliesBefore-Meaning}
use Rattle.tre_syntax.proofs.laws.cutting_off.Goals as goal

cut : (tree : PatternTree) (start : ℕ) (before : Option ℕ) (u : List Segment) (next : Timeline)
    → ImpliesBefore (end_of start u) (MatchesRest tree (rest_of start before (prefixed u next)))
    (MatchesRest tree (rest_of start before (quiet u)))
cut tree start before u next =
    let longer = rest_of start before (prefixed u next) in
    ImpliesBefore-Meaning (AtomMatches longer) (AtomMatches (rest_of start before (quiet u)))
    (end_of start u) (IsOrdered-Atom longer) (IsInstant-Empty longer)
    (ImpliesBefore-cut start before u next) tree

pub returns : goal.returns
returns c = record {
  rest = λ tree start before u next. (cut tree start before u next).at;
  whole = λ tree u next. (cut tree 0 None u next).at;
}
