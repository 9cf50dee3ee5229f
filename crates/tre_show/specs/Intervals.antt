-- The intervals of an expression.
use Rattle.tre_zone.specs.Interval.{IsInterval}
use Rattle.tre_syntax.specs.PatternTree.{PatternTree, atom, sequence, alternation, intersection}
use Rattle.tre_syntax.specs.PatternTree.{repetition, restriction}

-- Each interval of the expression is as every `Interval` is.
abbrev pub HasIntervals : PatternTree → Type 0
HasIntervals (atom x) = Unit {0}
HasIntervals (sequence e f) = HasIntervals e × HasIntervals f
HasIntervals (alternation e f) = HasIntervals e × HasIntervals f
HasIntervals (intersection e f) = HasIntervals e × HasIntervals f
HasIntervals (repetition e) = HasIntervals e
HasIntervals (restriction e ends) = HasIntervals e × IsInterval ends
