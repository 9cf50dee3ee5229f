-- The meaning of timed regular expressions (FORMATS 2014, section 2).
use Rattle.tre_pairs.specs.Pairs.{Pairs, Composed, Either, Both, Lasting, Chain}
use Rattle.tre_trace.specs.Trace.{Timeline}
use Rattle.tre_zone.specs.Interval.{LastsWithin}
use Rattle.tre_syntax.specs.PatternTree.{Atom, PatternTree, empty, atom, sequence, alternation, intersection, repetition, restriction}
use Rattle.tre_syntax.specs.Rest.{Rest, whole, AtomMatches}

-- Which pairs of times an expression matches, where it is known which of them each atom does.
abbrev pub Meaning : (Atom → Pairs) → PatternTree → Pairs
Meaning reading (atom x) = reading x
Meaning reading (sequence left right) = Composed (Meaning reading left) (Meaning reading right)
Meaning reading (alternation left right) = Either (Meaning reading left) (Meaning reading right)
Meaning reading (intersection left right) = Both (Meaning reading left) (Meaning reading right)
Meaning reading (repetition tree) = Chain (Meaning reading tree) (reading empty)
Meaning reading (restriction tree ends) = Lasting (LastsWithin ends) (Meaning reading tree)

abbrev pub MatchesRest : PatternTree → Rest → Pairs
MatchesRest tree rest = Meaning (AtomMatches rest) tree

-- The expression matches the stretch from a/n to b/n over a whole trace.
abbrev pub Matches : PatternTree → Timeline → Pairs
Matches tree trace = MatchesRest tree (whole trace)
