use Rattle.std.proofs.Common.{◌↔◌, ℕ, Option, List, None, ◌++◌}
use Rattle.tre_trace.specs.declared.segment.Segment.{Segment}
use Rattle.tre_trace.specs.Trace.{timeline_of}
use Rattle.tre_syntax.specs.Meaning.{MatchesRest}
use Rattle.tre_syntax.specs.PatternTree.{PatternTree}
use Rattle.tre_syntax.specs.Rest.{AtomMatches, rest_of}
use Rattle.tre_syntax.proofs.MeaningLaws.{Implies-Meaning}
use Rattle.tre_syntax.proofs.Splits.{one, two, Implies-split, Implies-joined}
use Rattle.tre_syntax.proofs.laws.splitting.Goals as goal

split : (tree : PatternTree) (start : ℕ) (before : Option ℕ) (front back : List Segment)
    (first second val ev last a b n : ℕ)
    → MatchesRest tree
    (rest_of start before (timeline_of (front ++ one first second val ev back) last)) a b n
    ↔ MatchesRest tree
    (rest_of start before (timeline_of (front ++ two first second val ev back) last)) a b n
split tree start before front back first second val ev last a b n =
    let uncut = AtomMatches
    (rest_of start before (timeline_of (front ++ one first second val ev back) last)) in
    let parts = AtomMatches
    (rest_of start before (timeline_of (front ++ two first second val ev back) last)) in (
      (Implies-Meaning uncut parts
          (Implies-split first second val ev back start before front last) tree).at a b n,
      (Implies-Meaning parts uncut
          (Implies-joined first second val ev back start before front last) tree).at a b n,
    )

pub returns : goal.returns
returns c = record { rest = split; whole = λ tree. split tree 0 None }
