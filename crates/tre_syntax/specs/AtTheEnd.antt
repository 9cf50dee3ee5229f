-- What an expression matches where a trace ends: the moment of its end, or nothing.
use Rattle.std.specs.Int.{bit_at}
use Rattle.std.specs.Prelude.{◌≡◌, ℕ, ◌⊎◌}
use Rattle.tre_zone.specs.Interval.{LastsWithin}
use Rattle.tre_syntax.specs.PatternTree.{Atom, PatternTree, empty, literal, rise, fall, event, atom, sequence, alternation, intersection, repetition, restriction}

-- The atom matches the moment at which a trace ends with these last events. No segment follows, so
-- there is no time for a literal, and no edge.
abbrev pub AtomAtEnd : ℕ → Atom → Type 0
AtomAtEnd last empty = Unit {0}
AtomAtEnd last (literal state) = ⊥
AtomAtEnd last (rise state) = ⊥
AtomAtEnd last (fall state) = ⊥
AtomAtEnd last (event number) = bit_at last number ≡ 1

-- The same of an expression. All its parts match at that one moment, which lasts no time.
abbrev pub MatchesAtEnd : ℕ → PatternTree → Type 0
MatchesAtEnd last (atom x) = AtomAtEnd last x
MatchesAtEnd last (sequence left right) = MatchesAtEnd last left × MatchesAtEnd last right
MatchesAtEnd last (alternation left right) = MatchesAtEnd last left ⊎ MatchesAtEnd last right
MatchesAtEnd last (intersection left right) = MatchesAtEnd last left × MatchesAtEnd last right
MatchesAtEnd last (repetition tree) = Unit {0}
MatchesAtEnd last (restriction tree ends) = MatchesAtEnd last tree × LastsWithin ends 0 1
