-- What has begun of an expression and isn't over where a rest of a trace ends.
use Rattle.std.specs.Prelude.{◌≡◌, ℕ, ◌*◌}
use Rattle.tre_pairs.specs.Cuts.{IsMoment}
use Rattle.tre_pairs.specs.Pairs.{Pairs, Composed, Either, Both, Lasting}
use Rattle.tre_trace.specs.Trace.{Timeline, end_of}
use Rattle.tre_zone.specs.Interval.{IsBelowHigh}
use Rattle.tre_syntax.specs.Meaning.{MatchesRest, Matches}
use Rattle.tre_syntax.specs.PatternTree.{Atom, PatternTree, atom, sequence, alternation, intersection, repetition, restriction}
use Rattle.tre_syntax.specs.Rest.{Rest, whole, AtomMatches}

-- The stretch ends where the rest does.
pub record EndsThere (rest : Rest) (a b n : ℕ) : Type 0 where
  pub end : b ≡ end_of rest.start rest.segments * n

-- The moment at which the rest ends.
abbrev pub IsTheEnd : Rest → Pairs
IsTheEnd rest = IsMoment (end_of rest.start rest.segments)

-- An atom has begun where it matches up to the end, and at the end itself, where no edge is known
-- yet.
abbrev pub AtomHasBegun : Rest → Atom → Pairs
AtomHasBegun rest x = Either (IsTheEnd rest) (Both (AtomMatches rest x) (EndsThere rest))

-- The stretch from a/n to the end, b/n, may be the begin of a match, as far as the parts of the
-- expression tell.
abbrev pub BegunRest : PatternTree → Rest → Pairs
BegunRest (atom x) rest = AtomHasBegun rest x
BegunRest (sequence left right) rest =
    Either (BegunRest left rest) (Composed (MatchesRest left rest) (BegunRest right rest))
BegunRest (alternation left right) rest = Either (BegunRest left rest) (BegunRest right rest)
BegunRest (intersection left right) rest = Both (BegunRest left rest) (BegunRest right rest)
BegunRest (repetition tree) rest =
    Either (IsTheEnd rest) (Composed (MatchesRest (repetition tree) rest) (BegunRest tree rest))
BegunRest (restriction tree ends) rest = Lasting (IsBelowHigh ends) (BegunRest tree rest)

-- The same over a whole trace.
abbrev pub HasBegun : PatternTree → Timeline → Pairs
HasBegun tree trace = BegunRest tree (whole trace)

-- It matches, or may come to.
abbrev pub MayMatch : PatternTree → Timeline → Pairs
MayMatch tree trace = Either (Matches tree trace) (HasBegun tree trace)
