-- What has begun is ordered, and ends where the rest does.
use Rattle.std.proofs.Common.{arith}
use Rattle.tre_pairs.specs.Pairs.{Composed, Both}
use Rattle.tre_pairs.proofs.Laws.{IsOrdered}
use Rattle.tre_pairs.proofs.Order.{IsOrdered-Composed, IsOrdered-Either, IsOrdered-Both, IsOrdered-Lasting}
use Rattle.tre_zone.specs.Interval.{IsBelowHigh}
use Rattle.tre_syntax.specs.Begun.{BegunRest, IsTheEnd, EndsThere}
use Rattle.tre_syntax.specs.Meaning.{MatchesRest}
use Rattle.tre_syntax.specs.PatternTree.{PatternTree, atom, sequence, alternation, intersection, repetition, restriction}
use Rattle.tre_syntax.specs.Rest.{Rest, AtomMatches}
use Rattle.tre_syntax.proofs.Atoms.{IsOrdered-Atom}
use Rattle.tre_syntax.proofs.CutMeaning.{IsOrdered-rest}

pub IsOrdered-end : (rest : Rest) → IsOrdered (IsTheEnd rest)
IsOrdered-end rest = record {
  le = λ a b n h. let begin = h.begin in let end = h.end in omega (arith, begin, end);
}

module _ (rest : Rest) where
  pub IsOrdered-begun : (tree : PatternTree) → IsOrdered (BegunRest tree rest)
  IsOrdered-begun (atom x) =
      IsOrdered-Either (IsTheEnd rest) (Both (AtomMatches rest x) (EndsThere rest))
      (IsOrdered-end rest)
      (IsOrdered-Both (AtomMatches rest x) (EndsThere rest) (IsOrdered-Atom rest x))
  IsOrdered-begun (sequence e f) =
      IsOrdered-Either (BegunRest e rest) (Composed (MatchesRest e rest) (BegunRest f rest))
      (IsOrdered-begun e)
      (IsOrdered-Composed (MatchesRest e rest) (BegunRest f rest) (IsOrdered-rest e rest)
      (IsOrdered-begun f))
  IsOrdered-begun (alternation e f) =
      IsOrdered-Either (BegunRest e rest) (BegunRest f rest) (IsOrdered-begun e)
      (IsOrdered-begun f)
  IsOrdered-begun (intersection e f) =
      IsOrdered-Both (BegunRest e rest) (BegunRest f rest) (IsOrdered-begun e)
  IsOrdered-begun (repetition e) =
      IsOrdered-Either (IsTheEnd rest)
      (Composed (MatchesRest (repetition e) rest) (BegunRest e rest)) (IsOrdered-end rest)
      (IsOrdered-Composed (MatchesRest (repetition e) rest) (BegunRest e rest)
      (IsOrdered-rest (repetition e) rest) (IsOrdered-begun e))
  IsOrdered-begun (restriction e ends) =
      IsOrdered-Lasting (IsBelowHigh ends) (BegunRest e rest) (IsOrdered-begun e)
