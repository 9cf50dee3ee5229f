-- Timed regular expressions as trees (FORMATS 2014, section 2).
use Rattle.std.specs.Prelude.{◌≡◌, ℕ, ◌+◌, ◌<◌, Option, Some, None, List, [], ◌∷◌, ◌++◌, ◌==◌, nat_lt, if◌then◌else◌}
use Rattle.tre_state.specs.StateTree as states
use Rattle.tre_state.specs.StateTree.{StateTree}
use Rattle.tre_zone.specs.Interval.{IntervalEnds}
use Rattle.tre_syntax.specs.declared.name_kind.NameKind.{NameKind}
use Rattle.tre_syntax.specs.declared.name_kind.NameKind.TheVariants.{Proposition, Event}

-- What an expression is made of: the empty stretch, a state that holds throughout, an edge of a
-- state, an event, which goes by its number.
pub data Atom : Type 0 where
  empty : Atom
  literal : StateTree → Atom
  rise : StateTree → Atom
  fall : StateTree → Atom
  event : ℕ → Atom

pub data PatternTree : Type 0 where
  atom : Atom → PatternTree
  sequence : PatternTree → PatternTree → PatternTree
  alternation : PatternTree → PatternTree → PatternTree
  intersection : PatternTree → PatternTree → PatternTree
  repetition : PatternTree → PatternTree
  restriction : PatternTree → IntervalEnds → PatternTree

-- The numbers of the propositions that a state names, from the left, each as often as it stands
-- there. It names no event.
abbrev pub numbers_of_state : NameKind → StateTree → List ℕ
numbers_of_state Proposition state = states.numbers_of state
numbers_of_state Event state = []

-- The number of an event, which is no proposition.
abbrev pub numbers_of_event : NameKind → ℕ → List ℕ
numbers_of_event Proposition number = []
numbers_of_event Event number = number ∷ []

-- The numbers of the propositions, or those of the events, that an atom names, from the left, each
-- as often as it stands there.
abbrev pub numbers_of_atom : NameKind → Atom → List ℕ
numbers_of_atom kind empty = []
numbers_of_atom kind (literal state) = numbers_of_state kind state
numbers_of_atom kind (rise state) = numbers_of_state kind state
numbers_of_atom kind (fall state) = numbers_of_state kind state
numbers_of_atom kind (event number) = numbers_of_event kind number

-- The numbers of the propositions, or those of the events, that the expression names, from the
-- left, each as often as it stands there.
abbrev pub numbers_of : NameKind → PatternTree → List ℕ
numbers_of kind (atom x) = numbers_of_atom kind x
numbers_of kind (sequence left right) = numbers_of kind left ++ numbers_of kind right
numbers_of kind (alternation left right) = numbers_of kind left ++ numbers_of kind right
numbers_of kind (intersection left right) = numbers_of kind left ++ numbers_of kind right
numbers_of kind (repetition tree) = numbers_of kind tree
numbers_of kind (restriction tree ends) = numbers_of kind tree

-- Every proposition and every event that an atom names has a number below the bound.
abbrev pub AtomNumbersBelow : ℕ → Atom → Type 0
AtomNumbersBelow bound empty = Unit {0}
AtomNumbersBelow bound (literal state) = states.NumbersBelow bound state
AtomNumbersBelow bound (rise state) = states.NumbersBelow bound state
AtomNumbersBelow bound (fall state) = states.NumbersBelow bound state
AtomNumbersBelow bound (event number) = number < bound

-- Every proposition and every event that the expression names has a number below the bound.
abbrev pub NumbersBelow : ℕ → PatternTree → Type 0
NumbersBelow bound (atom x) = AtomNumbersBelow bound x
NumbersBelow bound (sequence left right) = NumbersBelow bound left × NumbersBelow bound right
NumbersBelow bound (alternation left right) = NumbersBelow bound left × NumbersBelow bound right
NumbersBelow bound (intersection left right) = NumbersBelow bound left × NumbersBelow bound right
NumbersBelow bound (repetition tree) = NumbersBelow bound tree
NumbersBelow bound (restriction tree ends) = NumbersBelow bound tree

abbrev pub atom_node_count : Atom → ℕ
atom_node_count empty = 1
atom_node_count (literal state) = 1 + states.node_count state
atom_node_count (rise state) = 1 + states.node_count state
atom_node_count (fall state) = 1 + states.node_count state
atom_node_count (event number) = 1

-- How many nodes the expression has, those of its states among them.
abbrev pub node_count : PatternTree → ℕ
node_count (atom x) = atom_node_count x
node_count (sequence left right) = 1 + node_count left + node_count right
node_count (alternation left right) = 1 + node_count left + node_count right
node_count (intersection left right) = 1 + node_count left + node_count right
node_count (repetition tree) = 1 + node_count tree
node_count (restriction tree ends) = 1 + node_count tree

-- How many numbers were seen, counted from 0, once the list was read after `seen` others: each
-- number must be one that was seen already or the next one.
abbrev pub seen_after : ℕ → List ℕ → Option ℕ
seen_after seen [] = Some seen
seen_after seen (number ∷ rest) =
    if nat_lt number seen then seen_after seen rest
    else (if number == seen then seen_after (seen + 1) rest else None)

-- The numbers of the propositions, or those of the events, are 0, 1 and so on up to the count, by
-- their first use from the left.
abbrev pub IsNumbered : NameKind → PatternTree → ℕ → Type 0
IsNumbered kind tree count = seen_after 0 (numbers_of kind tree) ≡ Some count
